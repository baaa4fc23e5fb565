mod Batches
mod Chunks
mod Contents
mod Ends
mod Examples
pub mod Machines
mod Marking
mod Running
pub mod Runs
pub mod Traces
mod UnderWay
pub mod Wants
mod Weights
