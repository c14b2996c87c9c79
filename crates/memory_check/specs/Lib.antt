pub mod Shapes
pub mod Starts
pub mod Clocks
pub mod Ports
pub mod Memories
