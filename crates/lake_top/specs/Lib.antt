pub mod Desks
pub mod Opening
pub mod Reading
pub mod Run
pub mod Running
pub mod Script
pub mod Sixteen
