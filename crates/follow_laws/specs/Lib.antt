pub mod Inputs
pub mod Alike
