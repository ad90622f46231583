-- Definitions that only private functions use.
pub mod Apart
pub mod InPlace
pub mod Links
pub mod Looks
