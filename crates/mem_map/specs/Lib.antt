pub mod Words
pub mod Parts
pub mod Limits
pub mod Gathered
