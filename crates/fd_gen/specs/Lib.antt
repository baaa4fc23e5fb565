-- The definitions that contracts cite.
pub mod Entries
pub mod Generated
pub mod Layout
pub mod Spelled
