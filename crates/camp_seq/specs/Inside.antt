-- Definitions that only private functions use.
pub mod FirstInOrder
pub mod InPlace
pub mod LeastLabels
pub mod NextInOrder
pub mod Reach
