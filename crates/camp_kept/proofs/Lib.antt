pub mod Committing
pub mod EntryLemmas
mod Listing
mod Numbering
mod Opening
mod Preserving
mod PlaceLemmas
pub mod Prefixes
mod ReplayLemmas
mod Refusing
mod Reopening
mod TitleLemmas
mod Waiting
