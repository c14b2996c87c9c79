pub mod Digits
pub mod Linking
pub mod Freshening
pub mod Tabling
pub mod Marking
mod Placing
pub mod Recoding
pub mod Giving
