pub mod CommitTreeLemmas
pub mod DifferenceLemmas
pub mod FileLemmas
pub mod PartLemmas
pub mod TreeLemmas
