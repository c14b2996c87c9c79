pub mod Changes
pub mod Sweeping
pub mod Keeping
pub mod Rounding
pub mod Netlists
