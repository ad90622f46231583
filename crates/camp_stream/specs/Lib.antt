pub mod CommandTexts
pub mod CommandValues
pub mod Commands
pub mod Inside
pub mod QuotedPaths
pub mod StreamItems
pub mod StreamValues
