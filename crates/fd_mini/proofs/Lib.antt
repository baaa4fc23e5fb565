mod Back
pub mod Layouts
