use Rattle.std.proofs.Common.{map, string_bytes}
use Rattle.nextest_tree.specs.Node.{keys}
use Rattle.nextest_tree.specs.Schema.{names_of}
use Rattle.nextest_tree.specs.View.{entries_view}
use Rattle.nextest_shape.specs.Faults.Found.{path_text}
use Rattle.nextest_shape.specs.Faults.Places.{fields_view}
use Rattle.nextest_shape.proofs.faults.Adding.{Left}
use Rattle.nextest_shape.proofs.faults.Listed.{unknown_keys}
use Rattle.nextest_shape.proofs.faults.listing.add_unknown.Given as goal

-- the keys that are left are to be looked at
abbrev pub invariant-loop-key : goal.invariant-loop-key
invariant-loop-key l =
    let of_keys = unknown_keys (names_of (fields_view l.fields)) (path_text l.path) in
    Left l.fn.found.items l.found.items (of_keys (map string_bytes l.key-iterator))
    (of_keys (keys (entries_view l.members.entries)))
