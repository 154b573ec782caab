pub mod Codes
pub mod CodePages
