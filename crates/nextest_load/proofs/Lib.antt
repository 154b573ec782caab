mod ByteOrder
mod Documents
mod Elements
mod Files
mod Laying
mod Inputs
mod Parents
mod NamesInOrder
mod Placing
mod Defining
pub mod MergedScripts
mod Merging
mod Wholes
mod Parting
mod Tools
mod Accepting
mod SortedTrees
pub mod Keeping
mod Leading
pub mod Closing
mod LeastFaults
mod Exactness
mod Loads
pub mod Under
pub mod ProfileNodes
pub mod Agreement
pub mod RulesOfNode
pub mod WritesOnlyParent
pub mod AreScriptsOf
pub mod Saying
