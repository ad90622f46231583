pub mod Asking
pub mod Books
pub mod Deciding
pub mod Histories
pub mod Objects
