mod Taking
mod Reporting
pub mod Silent
mod Reading
pub mod ShownLists
