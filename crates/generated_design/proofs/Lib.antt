pub mod Eight
pub mod Faultless
pub mod Making
pub mod Names
pub mod Readable
