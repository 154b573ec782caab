pub mod CommandLines
pub mod ShellSplits
pub mod ShellSteps
pub mod Variables
pub mod SpellsWrapperScript
pub mod SpellsSetupScript
