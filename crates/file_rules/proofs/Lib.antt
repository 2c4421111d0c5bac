pub mod PathLemmas
pub mod DeleteFileLemmas
