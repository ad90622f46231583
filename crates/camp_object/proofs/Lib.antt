pub mod Asks
pub mod Beginnings
pub mod Replays
pub mod SameBooks
