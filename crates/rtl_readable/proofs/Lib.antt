pub mod Grown
pub mod Counting
pub mod Signals
pub mod Changing
