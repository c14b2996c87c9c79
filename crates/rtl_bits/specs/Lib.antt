pub mod Knowledge
pub mod Tables
pub mod Numbers
pub mod Counts
pub mod Text
