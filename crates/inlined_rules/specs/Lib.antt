pub mod Groups
pub mod Stays
pub mod Terms
pub mod TermIndex
pub mod Misfits
