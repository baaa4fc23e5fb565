pub mod Bounds
pub mod Info
pub mod Lines
pub mod Name
pub mod Saved
