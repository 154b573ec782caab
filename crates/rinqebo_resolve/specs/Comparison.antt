pub mod Requests
pub mod Comparisons
pub mod Readings
