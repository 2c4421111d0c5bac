pub mod Table
pub mod Validity
pub mod Interval
pub mod Laws
