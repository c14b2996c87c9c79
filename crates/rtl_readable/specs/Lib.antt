pub mod Readable
pub mod Changing
