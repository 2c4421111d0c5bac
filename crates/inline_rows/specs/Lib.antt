pub mod Allowed
pub mod Content
pub mod Faults
pub mod Finding
pub mod Laws
pub mod Reading
pub mod Spelling
pub mod Tests
