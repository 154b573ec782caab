pub mod Packages
pub mod Lists
pub mod Fields
