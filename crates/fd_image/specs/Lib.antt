-- The definitions that contracts cite.
pub mod Image
pub mod Physical
