pub mod Headline
pub mod Answers
pub mod ConfigView
pub mod ProfileError
pub mod RowView
pub mod ValueTexts
pub mod RunView
pub mod Laws
