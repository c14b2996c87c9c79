pub mod Monotone
pub mod Edges
