pub mod Groups
pub mod Ids
