pub mod Ready
pub mod Step
pub mod Kinds
