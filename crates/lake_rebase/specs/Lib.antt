pub mod Tidy
pub mod Since
pub mod Laws
