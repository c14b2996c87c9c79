pub mod Fresh
pub mod Extending
pub mod Parts
pub mod Cells
