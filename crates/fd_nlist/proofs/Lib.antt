mod Names
mod Openings
pub mod Refused
mod Rest
