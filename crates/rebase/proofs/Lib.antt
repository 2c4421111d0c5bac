pub mod DropLemmas
pub mod StatsLemmas
pub mod SpentLemmas
pub mod EndLemmas
pub mod BatchLemmas
