pub mod Calls
pub mod Inside
pub mod Patches
