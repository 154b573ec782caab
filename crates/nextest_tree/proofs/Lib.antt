pub mod Trees
pub mod Reading
pub mod Maps
pub mod Places
pub mod Values
pub mod Built
