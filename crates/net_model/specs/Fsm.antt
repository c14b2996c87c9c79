-- The pass `fsm`: state wires are found, and machines get the code with one bit for each state.
pub mod Find
pub mod Code
