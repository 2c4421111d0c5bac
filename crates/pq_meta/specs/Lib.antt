pub mod Checks
pub mod Drafts
pub mod Columns
pub mod Groups
pub mod Footers
pub mod Spelling
pub mod Consistency
pub mod Holding
