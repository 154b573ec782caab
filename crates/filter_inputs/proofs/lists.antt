pub mod Entries
pub mod FirstFaults
pub mod Parts
pub mod ReadSuites
pub mod ReadTokens
