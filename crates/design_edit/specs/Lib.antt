pub mod Modules
pub mod Table
pub mod Changes
pub mod Places
