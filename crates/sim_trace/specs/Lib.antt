pub mod Stimulus
pub mod Steps
