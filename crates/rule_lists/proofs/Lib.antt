pub mod Bits
pub mod ListOf
pub mod Settled
pub mod Built
pub mod Columns
pub mod Seen
pub mod Walked
pub mod Open
