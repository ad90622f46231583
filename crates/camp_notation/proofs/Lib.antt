pub mod Common
pub mod RowLemmas
