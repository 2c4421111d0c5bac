pub mod TypeLemmas
pub mod RowLemmas
