pub mod Answer
pub mod OpenFile
pub mod Parts
pub mod Place
pub mod Reader
pub mod Runs
pub mod Visits
pub mod Walk
