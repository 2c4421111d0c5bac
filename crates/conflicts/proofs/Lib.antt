pub mod OrderLemmas
pub mod PairLemmas
pub mod LawLemmas
