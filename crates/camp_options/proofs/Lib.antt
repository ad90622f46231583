pub mod Common
pub mod Found
pub mod Program
