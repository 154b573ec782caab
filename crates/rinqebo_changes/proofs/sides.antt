pub mod Zips
pub mod Matching
pub mod Own
pub mod RunRows
