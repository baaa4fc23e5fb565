pub mod Filling
pub mod FillingLends
pub mod Lends
pub mod Ownership
pub mod RegionLends
pub mod Written
