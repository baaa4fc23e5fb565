pub mod Clearing
pub mod Dump
pub mod Marked
pub mod Outcome
pub mod Partition
pub mod Printed
pub mod Writes
