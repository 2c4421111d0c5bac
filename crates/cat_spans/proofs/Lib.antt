pub mod CountLemmas
pub mod GapLemmas
pub mod PastLemmas
pub mod PointLemmas
pub mod RowLemmas
