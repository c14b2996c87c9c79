pub mod Limits
pub mod Nets
pub mod Ranks
pub mod Values
pub mod Expanded
pub mod Renaming
