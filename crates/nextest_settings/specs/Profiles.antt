pub mod Profiles
pub mod Junit
pub mod KnownGroups
pub mod Known
pub mod Meaning
pub mod SettingsOf
pub mod Memberships
pub mod RulesOn
