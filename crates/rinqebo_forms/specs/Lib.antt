pub mod Reading
pub mod Requests
pub mod Numbers
pub mod Machines
pub mod Runs
pub mod Features
