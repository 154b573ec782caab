pub mod Demands
pub mod Faults
pub mod Lists
pub mod ListView
pub mod Tokens
pub mod Parts
pub mod SuiteView
pub mod Reading
