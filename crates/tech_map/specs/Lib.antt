pub mod Techmap
pub mod InPlace
pub mod Gates
