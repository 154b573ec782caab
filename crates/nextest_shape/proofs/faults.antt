pub mod Reading
pub mod Adding
pub mod Words
pub mod Paths
pub mod Listed
pub mod Views
pub mod Trees
pub mod UnknownKeys
