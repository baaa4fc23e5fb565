pub mod Crash
pub mod Laws
pub mod Number
pub mod Outcome
pub mod Saving
