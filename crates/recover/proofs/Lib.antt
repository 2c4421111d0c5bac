pub mod FolderLemmas
pub mod HoldLemmas
pub mod LawLemmas
pub mod OpenLemmas
