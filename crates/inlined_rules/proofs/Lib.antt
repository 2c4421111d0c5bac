pub mod CellLemmas
pub mod ClearLemmas
pub mod InlinedLemmas
pub mod TermLemmas
pub mod ThousandLemmas
pub mod MisfitLemmas
