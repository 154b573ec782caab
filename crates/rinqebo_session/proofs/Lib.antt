pub mod Loads
pub mod Numbering
pub mod Faults
pub mod Statuses
