pub mod Blocks
pub mod Counting
pub mod Logs
pub mod Moments
pub mod Readings
