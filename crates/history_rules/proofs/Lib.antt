pub mod OverlapLemmas
pub mod LayoutLemmas
pub mod TextLemmas
pub mod CounterLemmas
pub mod GapLemmas
