pub mod Messages
mod Reading
mod Writing
