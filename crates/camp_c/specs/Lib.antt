pub mod Handles
pub mod Inside
pub mod Members
pub mod Owned
