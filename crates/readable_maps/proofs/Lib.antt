pub mod Nets
pub mod Bits
pub mod Demux
pub mod Words
pub mod Storage
pub mod Techmap
