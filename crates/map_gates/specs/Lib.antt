pub mod Gates
pub mod Bitwise
pub mod Folds
pub mod Choice
pub mod Parts
pub mod Expand
