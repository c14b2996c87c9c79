pub mod Growing
pub mod Patterns
pub mod Steps
pub mod NodeRows
pub mod Places
pub mod Numbering
pub mod Same
pub mod Standing
