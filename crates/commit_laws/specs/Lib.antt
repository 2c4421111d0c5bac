pub mod Commits
pub mod Laws
pub mod Example
pub mod Commit
pub mod StandLaws
pub mod Free
pub mod AgainLaws
