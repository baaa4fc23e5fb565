mod Made
pub mod DumpedPages
pub mod Headers
pub mod Limits
mod PlanPages
mod Ranges
mod SectionPages
mod Streaming
pub mod SectionPlaces
pub mod Sizes
pub mod Stands
pub mod Dumping
mod Directory
mod Marking
mod WholePages
