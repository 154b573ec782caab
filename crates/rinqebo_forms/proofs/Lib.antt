pub mod Saying
pub mod Switching
