pub mod Dates
pub mod Laws
pub mod Lines
pub mod Rules
pub mod Values
