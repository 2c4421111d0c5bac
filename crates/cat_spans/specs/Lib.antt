pub mod Groups
pub mod Marks
pub mod Points
pub mod Spans
