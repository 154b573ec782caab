pub mod Matched
pub mod Own
pub mod RunRows
