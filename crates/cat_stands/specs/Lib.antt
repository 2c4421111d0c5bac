pub mod FileFacts
pub mod LakeFacts
pub mod Stands
pub mod New
pub mod Laws
