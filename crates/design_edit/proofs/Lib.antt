pub mod Tables
pub mod Placing
pub mod Readings
pub mod Editing
pub mod Changing
pub mod Taking
pub mod Seeking
pub mod Naming
