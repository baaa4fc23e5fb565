-- The proofs that other files cite.
pub mod AbsentEntries
pub mod Addresses
pub mod DirectoryEntries
pub mod Lists
pub mod RangeParts
pub mod Rests
pub mod Spans
pub mod TablePath
pub mod Ways
