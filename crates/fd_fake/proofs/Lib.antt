pub mod Current
pub mod Grown
pub mod Stopped
