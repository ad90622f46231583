-- Definitions that only private functions use.
pub mod Alike
pub mod Collecting
pub mod Fronts
pub mod Stages
