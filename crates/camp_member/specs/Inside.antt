-- Definitions that only private functions and models use.
pub mod Drafts
pub mod Settling
pub mod Standings
