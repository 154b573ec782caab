use Rattle.std.proofs.Common.{◌≡◌, ◌++◌, map}
use Rattle.std.specs.List.{All}
use Rattle.nextest_tree.specs.View.{tree_view}
use Rattle.rinqebo_checks.specs.Faults.{HasStray}
use Rattle.rinqebo_checks.proofs.value_faults.with_strays.Given as goal

-- the faults so far, and those that are left; each of those so far has its stray key
abbrev pub invariant-loop-fault : goal.invariant-loop-fault
invariant-loop-fault l = record {
  faults : map (λ f. f.fault) l.found.items ++ l.fault-iterator.rest.items ≡ l.fn.faults.items;
  strays : All (HasStray (tree_view l.tree)) l.found.items;
}
