pub mod OrderLemmas
pub mod VersionLemmas
pub mod StagedLemmas
mod ExampleLemmas
pub mod HeadLemmas
