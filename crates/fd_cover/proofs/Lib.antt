pub mod Adding
mod Joining
mod Searching
mod Wholes
