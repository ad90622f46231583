pub mod Asking
pub mod Inside
pub mod Laws
pub mod Sharing
