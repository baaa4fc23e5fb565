pub mod AddressFault
pub mod Kernel
pub mod Layout
pub mod MiniFault
pub mod Page
pub mod Places
pub mod Read
pub mod Readable
