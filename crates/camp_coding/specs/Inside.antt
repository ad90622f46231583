-- Definitions that only private functions use.
pub mod Placing
pub mod Splitting
