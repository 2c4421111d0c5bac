pub mod Types
pub mod Spelled
pub mod Written
pub mod Laws
