pub mod CommitTrees
pub mod Inside
pub mod Parts
pub mod TreeChanges
