pub mod Agreeing
pub mod Branches
pub mod Conflicting
pub mod Fields
pub mod Inside
pub mod Laws
pub mod Obliterating
pub mod Pulling
