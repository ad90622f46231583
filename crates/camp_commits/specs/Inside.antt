-- Definitions that only private functions use.
pub mod Changing
pub mod Making
