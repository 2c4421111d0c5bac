pub mod NameLemmas
pub mod DrawLemmas
