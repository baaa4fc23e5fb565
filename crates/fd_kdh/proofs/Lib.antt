mod Bytes
pub mod Headers
mod Parities
mod Parts
