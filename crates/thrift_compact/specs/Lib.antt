pub mod Spelling
pub mod Trees
pub mod Shortest
pub mod Reading
pub mod Parsing
pub mod Cursor
pub mod Structs
pub mod Laws
