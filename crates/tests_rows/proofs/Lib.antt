pub mod OneLemmas
