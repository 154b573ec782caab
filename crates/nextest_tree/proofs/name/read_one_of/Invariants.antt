use Rattle.std.proofs.Common.{◌≡◌, drop, string_bytes}
use Rattle.std.specs.Map.{lookup}
use Rattle.std.specs.Str.{bytes_eq}
use Rattle.nextest_tree.specs.Leaf.{name_pairs}
use Rattle.nextest_tree.proofs.name.read_one_of.Given as goal

-- none of the names so far is the text
abbrev pub invariant-loop-name : goal.invariant-loop-name
invariant-loop-name g l =
    lookup (bytes_eq (string_bytes l.text)) (name_pairs (drop l.name-index l.names))
    ≡ lookup (bytes_eq (string_bytes l.text)) (name_pairs l.names)
