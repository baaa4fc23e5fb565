-- The definitions that contracts cite.
pub mod Descent
pub mod Directory
pub mod Leaf
pub mod PageTables
pub mod Ranges
pub mod Step
