pub mod Promising
pub mod SameContents
