pub mod Endings
pub mod Receiving
