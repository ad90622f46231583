pub mod Inside
pub mod Texts
pub mod Titles
