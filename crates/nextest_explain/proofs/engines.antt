pub mod PartsOfTexts
pub mod Grammar
pub mod Lists
pub mod Negations
pub mod FilterTexts
