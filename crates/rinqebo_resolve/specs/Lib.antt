pub mod Asking
pub mod Endings
pub mod Pieces
pub mod Comparison
