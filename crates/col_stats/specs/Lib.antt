pub mod Bounds
pub mod Stats
