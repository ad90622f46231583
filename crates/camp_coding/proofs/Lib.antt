pub mod AttributeLemmas
pub mod ContentLemmas
pub mod EscapeLemmas
pub mod GitTreeLemmas
pub mod PlaceLemmas
