pub mod Lines
pub mod Shown
pub mod Rows
pub mod Reasons
pub mod Runs
pub mod Verdicts
pub mod Validation
pub mod Matching
