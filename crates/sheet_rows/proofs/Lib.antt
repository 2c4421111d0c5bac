pub mod SheetLemmas
pub mod SumLemmas
pub mod PlaceLemmas
pub mod RowLemmas
pub mod LiveLemmas
pub mod DeleteLemmas
pub mod IdLemmas
pub mod CountLemmas
