pub mod Commands
pub mod Framings
pub mod Groups
pub mod Runs
pub mod Services
