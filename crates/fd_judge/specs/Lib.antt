pub mod Crash
pub mod Printed
pub mod Verdict
