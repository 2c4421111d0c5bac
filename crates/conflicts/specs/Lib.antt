pub mod Shown
pub mod Search
pub mod Laws
