-- Definitions that only private functions and the models of lists and maps use.
pub mod EntryFields
pub mod Parts
pub mod Places
