pub mod Statuses
pub mod Lines
pub mod Writing
pub mod Files
pub mod Words
pub mod Taking
pub mod Explained
pub mod Engines
