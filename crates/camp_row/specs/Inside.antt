pub mod Parts
pub mod PassFields
pub mod RowFields
pub mod Rule
pub mod Steps
