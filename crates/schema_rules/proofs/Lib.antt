pub mod CrowdedColumnLemmas
pub mod ColumnlessLemmas
pub mod ColumnLemmas
pub mod DefaultLemmas
