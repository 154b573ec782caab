mod TextParts
mod ArrowLines
mod Deciding
pub mod SameValues
mod SameOrigins
mod ClassLists
mod Reflexive
mod Exactly
pub mod LikeSources
pub mod Fair
mod KeyedOrders
mod KeyedRows
pub mod EqualRows
mod WholeGroups
mod WholeDiffs
pub use Rattle.rinqebo_changes.proofs.sides.Matching
pub use Rattle.rinqebo_changes.proofs.sides.Own
pub use Rattle.rinqebo_changes.proofs.sides.Zips
