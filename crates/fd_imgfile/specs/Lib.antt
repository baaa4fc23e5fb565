pub mod Fault
pub mod File
pub mod Front
pub mod Reading
pub mod Spelling
