pub mod DeskLemmas
pub mod ExitLemmas
pub mod LineLemmas
pub mod OpeningLemmas
pub mod RunLemmas
pub mod RunningLemmas
pub mod SessionsLemmas
pub mod SixteenLemmas
