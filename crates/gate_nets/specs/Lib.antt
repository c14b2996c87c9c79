pub mod Gate
pub mod Words
pub mod Sum
pub mod Operand
pub mod Give
pub mod Reading
