pub mod Signals
pub mod Operands
pub mod Change
pub mod Rules
pub mod Distances
pub mod Laws
