pub mod Blocks
mod BodyWrites
mod HeaderBlocks
mod Marking
pub mod Places
mod Progress
mod Sectors
pub mod WholeDump
