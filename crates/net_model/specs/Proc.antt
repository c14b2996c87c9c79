-- The steps of `proc`, each over all processes in order.
pub mod Start
pub mod Reset
pub mod Mux
pub mod Latch
pub mod Sync
pub mod Steps
