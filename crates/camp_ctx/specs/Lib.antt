pub mod Adding
pub mod Conflicts
pub mod Contexts
pub mod Inside
pub mod Laws
pub mod Room
