pub mod Lines
pub mod Owning
pub mod Desks
pub mod Alone
pub mod Out
