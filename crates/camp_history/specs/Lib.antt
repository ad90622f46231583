pub mod Inside
pub mod StoredCalls
pub mod Synchronising
pub mod Opening
pub mod Seats
pub mod Snapshots
