pub mod Own
pub mod Sessions
pub mod Out
