pub mod Answers
pub mod Headers
pub mod Holding
pub mod Pages
pub mod Writing
pub mod Fitting
