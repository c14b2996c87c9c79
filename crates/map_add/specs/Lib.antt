pub mod Sum
pub mod Order
pub mod Expand
