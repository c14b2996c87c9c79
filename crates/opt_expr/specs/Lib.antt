pub mod Places
pub mod Inverters
pub mod Formed
pub mod Sweep
