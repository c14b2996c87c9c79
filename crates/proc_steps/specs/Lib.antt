pub mod Limits
pub mod Steps
