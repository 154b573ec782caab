use Rattle.std.proofs.Common.{◌≡◌, ◌++◌, take}
use Rattle.nextest_inheritance.specs.View.{names_view, borrowed_view}
use Rattle.nextest_inheritance.proofs.cycles.names_from.Given as goal

abbrev pub invariant-loop-name : goal.invariant-loop-name
invariant-loop-name l = names_view l.turned ≡ borrowed_view (take l.name-index l.name-items)

abbrev pub invariant-loop-name-2 : goal.invariant-loop-name-2
invariant-loop-name-2 l =
    names_view l.turned ≡ names_view l.initial.turned ++ borrowed_view (take l.name-index l.name-items)
