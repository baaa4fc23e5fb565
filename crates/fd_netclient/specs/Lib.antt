pub mod Client
pub mod Datagram
pub mod Heard
pub mod Machine
pub mod Marks
pub mod Sending
pub mod Trace
