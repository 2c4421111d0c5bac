pub mod OneLemmas
pub mod AllowedLemmas
pub mod CellLemmas
pub mod TextLemmas
pub mod NumberLemmas
pub mod BackLemmas
pub mod SpellsLemmas
pub mod WrongLemmas
