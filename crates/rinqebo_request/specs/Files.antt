pub mod Features
pub mod Origins
pub mod Layers
pub mod Gathering
pub mod RuleTables
