mod Choice
mod Fronts
mod Located
mod Numbered
mod Others
mod Pieces
mod Placed
mod Quotients
mod Standing
pub mod Visited
