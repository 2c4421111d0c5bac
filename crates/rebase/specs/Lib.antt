pub mod Parts
pub mod Ends
pub mod Made
pub mod Files
pub mod Stats
pub mod Spent
pub mod Batch
