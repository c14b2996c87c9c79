pub mod Moves
pub mod Shift
pub mod Expand
