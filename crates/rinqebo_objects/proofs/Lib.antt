pub mod Enabled
pub mod ExactObjects
pub mod Gathered
pub mod KnownUses
