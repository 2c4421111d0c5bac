pub mod Names
pub mod Writing
pub mod Drawing
pub mod Laws
