-- The node that a document's value means, given on from the crate of trees.
pub use Rattle.nextest_tree.specs.Value.{from_data, from_items, from_members}
