mod Alone
pub mod Apart
mod Complete
pub mod Covered
pub mod Finish
mod Going
mod Heralds
mod Isolated
mod Kept
pub mod Lists
pub mod More
mod Numbers
pub mod Own
mod Pacing
mod Places
mod Rows
pub mod Running
pub mod Settled
mod Sound
mod Standing
mod Steps
mod Taking
mod Turns
mod Unbroken
