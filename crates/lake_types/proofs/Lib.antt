pub mod CalendarLemmas
pub mod TextLemmas
pub mod ValueLemmas
