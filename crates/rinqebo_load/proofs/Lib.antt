pub mod Failing
pub mod Causes
pub mod Elements
pub mod Ids
pub mod Filters
pub mod Loading
