-- Definitions that only private functions and the models of names and paths use.
pub mod NameFields
pub mod PathFields
pub mod Steps
