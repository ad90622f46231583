pub mod Limits
pub mod Options
pub mod Reports
