pub mod AnswerLemmas
pub mod DateLemmas
pub mod LineAnswer
pub mod PlaceLemmas
pub mod RulesSound
pub mod ValueLemmas
