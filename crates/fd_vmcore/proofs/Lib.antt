pub mod Below
mod Openings
pub mod Opened
mod Pairs
