pub mod SignalBits
pub mod Places
pub mod ConstantBits
pub mod Lines
pub mod Rules
pub mod Trees
pub mod TreePlaces
pub mod Processes
