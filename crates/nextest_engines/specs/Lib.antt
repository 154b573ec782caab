pub mod Engines
pub mod Readings
pub mod RuleHistory
