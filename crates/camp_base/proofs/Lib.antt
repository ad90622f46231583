mod LineLemmas
mod NameLemmas
mod TreeLemmas
pub mod Words
