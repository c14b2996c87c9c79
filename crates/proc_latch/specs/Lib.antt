pub mod Sides
pub mod Bits
pub mod Givens
pub mod Chains
pub mod Parts
pub mod Steps
pub mod Limits
