pub mod BookCalls
pub mod StoredBooks
pub mod NumberLaws
pub mod NumberList
pub mod Questioned
pub mod Runs
pub mod Shared
