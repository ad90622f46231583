pub mod Applying
pub mod History
pub mod Inside
pub mod Objects
pub mod Resolving
pub mod WholeTrees
