-- The proofs that other files cite.
pub mod Pages
pub mod Places
pub mod Runs
pub mod SamePage
pub mod Segments
pub mod Slices
pub mod Valid
