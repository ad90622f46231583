pub mod Catches
pub mod Contexts
pub mod Lists
pub mod Patches
pub mod Trees
pub mod Words
