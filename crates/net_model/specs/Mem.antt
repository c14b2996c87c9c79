-- The pass `memory`: a memory is gathered, and becomes words, write chains and read trees.
pub mod Gather
pub mod Expand
