pub mod Growth
pub mod Fresh
pub mod Laws
pub mod Example
