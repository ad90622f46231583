pub mod BodyLemmas
pub mod EntryLemmas
pub mod HeadLemmas
pub mod NoteLemmas
pub mod SeatLemmas
pub mod TitleLemmas
