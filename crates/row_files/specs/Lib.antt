pub mod Folders
pub mod Reading
pub mod Fresh
pub mod Staging
pub mod Stages
pub mod Growing
pub mod Own
pub mod Laws
