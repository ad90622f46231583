pub mod Conversations
pub mod DurableLaws
pub mod Laws
