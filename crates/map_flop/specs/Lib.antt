pub mod Gate
pub mod Pins
pub mod Expand
