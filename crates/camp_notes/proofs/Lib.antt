mod LineLemmas
mod MapLemmas
pub mod ParseLemmas
mod TextLemmas
mod TitleLemmas
