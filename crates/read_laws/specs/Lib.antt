pub mod SignalBits
pub mod ConstantBits
pub mod Lines
pub mod Rules
pub mod Trees
pub mod Processes
