mod Batches
pub mod BlockLemmas
mod Endings
pub mod HeadLemmas
mod Overwriting
pub mod Words
