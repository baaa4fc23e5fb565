pub mod Calls
pub mod CutLaw
mod CutWrites
mod Judged
mod MarkedLaw
mod Torn
mod Verdicts
