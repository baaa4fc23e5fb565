pub mod Address
pub mod Command
pub mod CommandLine
pub mod Given
pub mod Savecore
pub mod Source
