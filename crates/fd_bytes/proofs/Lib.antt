mod Archs
pub mod Fields
pub mod Hex
mod Numerals
mod Pages
pub mod Texts
mod Vectors
