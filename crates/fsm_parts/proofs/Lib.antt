pub mod Keys
pub mod Updating
pub mod Parts
pub mod Firsts
