pub mod Steps
pub mod Learning
pub mod Joining
