pub mod NewLemmas
pub mod FileLemmas
pub mod EarlierLemmas
pub mod RestLemmas
pub mod SeeLemmas
pub mod OneLemmas
pub mod KeptLemmas
