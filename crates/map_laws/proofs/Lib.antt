pub mod Shaping
pub mod Renaming
pub mod Wholes
pub mod Expanding
pub mod FreshNames
pub mod FreshWires
pub mod Reordering
