pub mod Digits
pub mod Outputs
pub mod Parts
pub mod Links
pub mod Places
pub mod Limits
pub mod Machines
