pub mod Operand
pub mod Expansion
