-- The proofs that other files cite.
pub mod Numbers
pub mod Rules
pub mod Spelled
pub mod Wanted
