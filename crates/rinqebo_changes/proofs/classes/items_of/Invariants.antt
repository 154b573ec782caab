use Rattle.std.proofs.Common.{◌≡◌, ◌++◌, map, take}
use Rattle.rinqebo_changes.specs.Classes.{item_view, items_of}
use Rattle.rinqebo_changes.proofs.classes.items_of.Given as goal

abbrev pub invariant-loop-test : goal.invariant-loop-test
invariant-loop-test l = map item_view l.items.items ≡ items_of (take l.test-index l.tests)

abbrev pub invariant-loop-row : goal.invariant-loop-row
invariant-loop-row l =
    map item_view l.items.items
    ≡ map item_view l.initial.items.items ++ map (λ row. (l.test.test, row)) (take l.row-index l.test.rows.items)
