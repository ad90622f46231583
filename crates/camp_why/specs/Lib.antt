pub mod Causes
pub mod Grounds
pub mod Hints
pub mod Laws
pub mod Misfits
pub mod Stops
