pub mod Attributes
pub mod Contents
pub mod GitPaths
pub mod GitTrees
pub mod Inside
pub mod Modes
