pub mod AsciiLemmas
pub mod CutLemmas
pub mod FixedLemmas
pub mod NumberLemmas
pub mod StandLemmas
pub mod TokenLemmas
