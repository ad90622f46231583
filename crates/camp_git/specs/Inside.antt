-- Definitions that only private functions use.
pub mod Commits
pub mod Finding
pub mod Steps
pub mod Streams
