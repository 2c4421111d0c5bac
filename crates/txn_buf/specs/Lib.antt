pub mod Base
pub mod Drafts
pub mod Inserts
pub mod Keeping
pub mod Laws
pub mod Sizes
pub mod Turns
