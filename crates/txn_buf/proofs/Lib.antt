pub mod ColumnLemmas
pub mod InsertLemmas
pub mod KeepLemmas
pub mod ListLemmas
pub mod PlanLemmas
pub mod SeenLemmas
pub mod SizeLemmas
pub mod TurnLemmas
