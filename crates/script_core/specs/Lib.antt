pub mod Words
pub mod Reached
pub mod Searching
pub mod Keys
pub mod Fold
pub mod Built
pub mod Cold
pub mod Mapping
