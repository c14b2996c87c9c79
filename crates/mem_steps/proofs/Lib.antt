pub mod Turns
pub mod Giving
pub mod Renaming
pub mod FirstCells
