-- Definitions that only private functions use.
pub mod Framing
pub mod ExecutingNext
pub mod Parts
pub mod RequestSteps
pub mod Responses
pub mod Viewing
