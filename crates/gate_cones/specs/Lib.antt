pub mod Row
pub mod Cone
pub mod Below
pub mod Netlist
pub mod Adds
pub mod Exchange
