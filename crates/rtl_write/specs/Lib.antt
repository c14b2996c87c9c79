pub mod Constant
pub mod Signal
pub mod Text
pub mod Ports
pub mod Bodies
pub mod PortTables
