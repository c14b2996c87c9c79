pub mod StepTable
pub mod Aliases
