pub mod Lines
pub mod Begins
pub mod Givens
pub mod Rows
pub mod Trees
pub mod Limits
