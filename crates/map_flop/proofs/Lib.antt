pub mod Adding
pub mod Storing
pub mod Gating
pub mod Standing
pub mod Expanding
pub mod Expanded
pub mod Renaming
