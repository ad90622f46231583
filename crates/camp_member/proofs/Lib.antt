pub mod Counting
pub mod Deciding
pub mod Reading
pub mod SnapshotLemmas
pub mod Telling
pub mod Settling
