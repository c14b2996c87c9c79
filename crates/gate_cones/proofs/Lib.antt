pub mod Exact
pub mod Keeping
pub mod Standing
pub mod Exchanging
pub mod Adding
