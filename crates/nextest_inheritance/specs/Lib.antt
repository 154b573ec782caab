pub mod Names
pub mod Parents
pub mod Cycles
pub mod Faults
pub mod Walks
pub mod Found
pub mod View
