pub mod Search
pub mod Ends
pub mod Flaws
pub mod Readings
pub mod Acting
pub mod Updates
pub mod Values
