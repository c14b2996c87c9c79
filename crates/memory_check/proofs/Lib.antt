pub mod Same
pub mod Starting
pub mod Noting
pub mod Standing
pub mod Behind
pub mod Shaping
pub mod Writing
