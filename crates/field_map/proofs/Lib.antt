pub mod LayLemmas
pub mod LaidLemmas
