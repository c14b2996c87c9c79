pub mod Words
pub mod Heads
pub mod Commands
pub mod Taking
