mod Duplicates
pub mod Ends
mod FirstPaths
pub mod Lists
pub mod Runs
