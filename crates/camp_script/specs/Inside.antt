-- Definitions that only private functions and the model of a reader use.
pub mod Asking
pub mod Files
pub mod Progress
pub mod ReadingFields
pub mod Spaces
pub mod Steps
pub mod Written
