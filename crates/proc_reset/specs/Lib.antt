pub mod Outer
pub mod Places
pub mod Reads
pub mod Promise
