pub mod ReadOn
pub mod Viable
pub mod Table
pub mod Reading
pub mod Exactly
pub mod Closed
