pub mod Signal
pub mod Names
pub mod Storage
