pub mod CommitLemmas
pub mod EachLemmas
pub mod TreeLemmas
pub mod WholeTreeLemmas
