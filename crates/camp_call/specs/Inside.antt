-- Definitions that only the model of changes uses.
pub mod ChangesFields
