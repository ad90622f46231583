pub mod Applied
pub mod Effect
pub mod Hunks
pub mod Inside
pub mod Labels
pub mod Laws
pub mod Commuting
