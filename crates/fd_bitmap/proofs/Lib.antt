pub mod Positions
pub mod Rising
mod LaidRuns
mod PairRuns
pub mod LowBits
pub mod ByteBits
pub mod WordBits
mod RankCounts
pub mod BitRuns
mod KeptBits
pub mod JoinedRuns
mod EmptyStruct
