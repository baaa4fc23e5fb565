pub mod Clears
pub mod Copying
mod Offs
pub mod Places
mod Safe
pub mod Steps
mod Torn
pub mod Turns
