-- A number from 1.
use Rattle.std.specs.Prelude.{ℕ, pos, negsuc, nat_lt, Result, Ok, Err, if◌then◌else◌}
use Rattle.nextest_tree.specs.Node.{Node, int}
use Rattle.nextest_tree.specs.Schema.{FaultCause, wrong_kind, out_of_range, Schema}
use Rattle.nextest_tree.specs.Leaf.{value}

-- a number above 0
abbrev pub positive_at : Node → Result ℕ FaultCause
positive_at (int (pos n)) = if nat_lt 0 n then Ok n else Err out_of_range
positive_at (int (negsuc n)) = Err out_of_range
positive_at _ = Err wrong_kind

-- a number above 0, as it may be in a tree
unfoldable pub a_positive : Schema
a_positive = value positive_at
