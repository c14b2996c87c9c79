pub mod Leaves
pub mod Starts
pub mod Attributes
