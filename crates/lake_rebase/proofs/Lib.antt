pub mod MemberLemmas
pub mod WorkLemmas
pub mod MakeLemmas
pub mod ToldLemmas
pub mod HeadLemmas
pub mod TellLemmas
