pub mod Values
pub mod Enabling
pub mod Used
pub mod Uses
pub mod Scripts
pub mod Origins
pub mod Objects
pub mod WarningObjects
