pub mod Faults
pub mod Inside
pub mod Laws
pub mod Limits
pub mod Logs
pub mod Notes
pub mod Texts
