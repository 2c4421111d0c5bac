pub mod Held
pub mod Line
pub mod Select
pub mod Shown
pub mod Staging
pub mod Turns
