mod Fitting
mod Searching
mod Placing
mod Acting
mod Walking
mod Leaves
mod Ranks
mod Putting
mod Same
mod Stepping
pub mod Exact
pub mod Promised
