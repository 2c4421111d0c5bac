pub mod BindLemmas
pub mod TruthLemmas
