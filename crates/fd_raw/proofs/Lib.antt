mod Blocks
mod Memory
pub mod Written
