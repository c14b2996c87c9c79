-- The flat netlist: each bit of a module and of all its instances, with what drives it.
pub mod Place
pub mod Point
pub mod Pick
pub mod Driver
pub mod Start
pub mod Cell
pub mod Link
pub mod Process
pub mod Access
pub mod Memory
pub mod Rows
pub mod Tree
pub mod Reads
