pub mod Limits
pub mod Steps
pub mod Products
pub mod Operands
pub mod Values
pub mod Expanded
pub mod Renaming
