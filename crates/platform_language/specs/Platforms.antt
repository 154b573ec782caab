pub mod Platforms
pub mod Rows
pub mod Table
pub mod Targets
pub mod CfgLines
pub mod CfgList
