pub mod SignLemmas
pub mod QuoteLemmas
pub mod KindLemmas
pub mod BodyLemmas
pub mod OrderLemmas
pub mod ListLemmas
pub mod NameLemmas
