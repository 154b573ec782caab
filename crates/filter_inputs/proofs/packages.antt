pub mod Composing
pub mod Gathering
pub mod Matching
pub mod Placing
pub mod Reaching
pub mod Spreading
pub mod Tests
pub mod Within
