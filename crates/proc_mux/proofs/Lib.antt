mod Walking
mod Sources
mod TreeGivens
mod RunSteps
mod Same
mod Fitting
mod Uniform
mod RowParts
mod RowGivens
mod RowWalks
mod Beginning
pub mod Exact
mod Ordering
