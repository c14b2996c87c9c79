mod Heads
mod Blocks
mod Turns
