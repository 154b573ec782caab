mod FeatureNames
pub mod Adding
pub mod Choosing
pub mod NamedKeys
pub mod Commands
pub mod NamedTools
pub mod NamedFeatures
pub mod Hinting
pub mod Targets
pub mod Formats
pub mod NamedTests
pub mod Refusing
