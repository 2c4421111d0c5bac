pub mod Sheets
pub mod Live
pub mod Rows
pub mod Laws
