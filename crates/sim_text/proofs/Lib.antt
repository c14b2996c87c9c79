mod PortWords
mod Joining
mod Words
mod Lines
