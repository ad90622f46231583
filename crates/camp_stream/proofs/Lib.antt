pub mod CommandLaws
pub mod CommandLemmas
pub mod ItemLemmas
pub mod QuoteLemmas
