pub mod Ports
pub mod Tables
pub mod Rising
pub mod First
