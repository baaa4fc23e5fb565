pub mod Elf
pub mod ElfAnswer
pub mod ElfParts
pub mod Layout
pub mod Opening
