pub mod RoomLemmas
pub mod FitLemmas
pub mod TableLemmas
pub mod EarlierLemmas
pub mod PartLemmas
pub mod PastLemmas
pub mod SweepLemmas
pub mod RiseLemmas
