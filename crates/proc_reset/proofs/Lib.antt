pub mod ActingLemmas
pub mod Choosing
pub mod Gathering
pub mod Leveled
pub mod Placing
pub mod Promised
pub mod Unread
