use Rattle.std.proofs.Common.{◌≡◌, ◌++◌, map}
use Rattle.std.specs.Prelude.{filter, not}
use Rattle.nextest_tree.specs.Schema.{is_one_of}
use Rattle.nextest_tree.specs.Node.{keys}
use Rattle.nextest_tree.specs.View.{entries_view}
use Rattle.rinqebo_faults.proofs.tables.strays_of.Given as goal

abbrev pub invariant-loop-key : goal.invariant-loop-key
invariant-loop-key l =
    map (λ key. key.now) l.strays.items
    ++ filter (λ key. not (is_one_of (map (λ known. known.now) l.known) key))
    (keys (entries_view l.key-iterator))
    ≡ filter (λ key. not (is_one_of (map (λ known. known.now) l.known) key))
    (keys (entries_view l.members.entries))
