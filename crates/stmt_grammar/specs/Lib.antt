pub mod Grammar
pub mod Phrases
pub mod Places
pub mod Reads
pub mod Written
