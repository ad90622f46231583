pub mod Entries
mod Found
mod Lookups
mod MapLemmas
mod Parted
mod PartLemmas
pub mod Words
