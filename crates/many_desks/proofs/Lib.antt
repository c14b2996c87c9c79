pub mod Answered
pub mod Ways
