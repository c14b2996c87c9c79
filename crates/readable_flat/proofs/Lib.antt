pub mod Names
pub mod Signals
pub mod Copies
pub mod Links
pub mod Distinct
pub mod Flattened
