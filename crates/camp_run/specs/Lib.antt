pub mod Faults
pub mod Inputs
pub mod StoredTexts
pub mod Laws
pub mod Outputs
pub mod Runs
pub mod Serial
