use Rattle.std.proofs.Common.{◌≡◌, ◌++◌, map, string_bytes}
use Rattle.nextest_tree.specs.Node.{keys}
use Rattle.nextest_tree.specs.View.{entries_view}
use Rattle.nextest_places.proofs.ids.keys_of.Given as goal

abbrev pub invariant-loop-key : goal.invariant-loop-key
invariant-loop-key l =
    map string_bytes l.keys.items ++ keys (entries_view l.key-iterator)
    ≡ keys (entries_view l.members.entries)
