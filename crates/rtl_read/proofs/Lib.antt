pub mod Stacks
pub mod Parts
pub mod Signals
pub mod Faults
pub mod Fewer
pub mod Taking
pub mod Unique
pub mod Refusing
