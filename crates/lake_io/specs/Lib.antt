pub mod Causes
pub mod FailList
pub mod Told
pub mod Memory
pub mod Names
