pub mod Layering
pub mod Seeking
pub mod Highest
pub mod Ranges
pub mod Documents
pub mod Reading
pub mod Passing
pub mod RuleTables
