pub mod Words
pub mod Finds
pub mod Named
pub mod Numbers
pub mod Tallies
pub mod Places
pub mod Due
pub mod Edits
