pub mod Header
pub mod Opening
pub mod Parts
pub mod Sections
pub mod Symbols
