pub mod Texts
pub mod FilterValues
pub mod FilterTexts
pub mod Filters
pub mod Decided
pub mod Platforms
