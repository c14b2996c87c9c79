pub mod Ready
pub mod Pass
pub mod Stays
pub mod Bits
pub mod Replaces
pub mod OwnNames
