pub mod Answers
pub mod Exports
pub mod FastImport
pub mod Holding
pub mod Inside
