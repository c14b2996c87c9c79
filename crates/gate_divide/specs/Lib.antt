pub mod Signs
pub mod Division
pub mod Rounding
pub mod Kinds
