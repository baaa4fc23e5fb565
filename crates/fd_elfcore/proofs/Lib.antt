pub mod Found
pub mod Fronts
pub mod Headers
pub mod Opened
pub mod Rising
pub mod Standing
