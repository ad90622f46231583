mod Words
pub mod Causing
pub mod Grounding
pub mod Misfitting
pub mod Seeing
pub mod Stopping
