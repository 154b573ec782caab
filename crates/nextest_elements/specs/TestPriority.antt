-- The priority of a test.
use Rattle.std.specs.Prelude.{ℤ, pos, negsuc, int_lt, ◌||◌, Result, Ok, Err, if◌then◌else◌}
use Rattle.nextest_tree.specs.Node.{Node, int}
use Rattle.nextest_tree.specs.Schema.{FaultCause, wrong_kind, out_of_range, Schema}
use Rattle.nextest_tree.specs.Leaf.{value}

-- a number from -100 to 100
abbrev pub priority_at : Node → Result ℤ FaultCause
priority_at (int z) = if int_lt z (negsuc 99) || int_lt (pos 100) z then Err out_of_range else Ok z
priority_at _ = Err wrong_kind

-- such a number, as it may be in a tree
unfoldable pub a_priority : Schema
a_priority = value priority_at
