pub mod Begun
pub mod Cuts
mod Examples
pub mod FileJournals
pub mod OnFile
pub mod Told
pub mod Writing
pub mod Written
