pub mod Digits
pub mod Escapes
pub mod Lined
pub mod Names
pub mod Numbers
pub mod OneLine
