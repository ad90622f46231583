mod Words
pub mod Seeing
pub mod AskLemmas
pub mod SynchronisedSeats
pub mod SnapshotLemmas
