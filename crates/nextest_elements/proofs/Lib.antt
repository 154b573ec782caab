pub mod Retries
pub mod DurationGrammar
pub mod Durations
pub mod IdentifierParts
pub mod Identifiers
pub mod Owners
pub mod StandsOnce
