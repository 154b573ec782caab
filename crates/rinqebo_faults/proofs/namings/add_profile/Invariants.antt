use Rattle.std.proofs.Common.{drop, map}
use Rattle.nextest_tree.specs.View.{nodes_view}
use Rattle.rinqebo_faults.specs.FileNamings.{rules_names}
use Rattle.rinqebo_faults.proofs.Named.{Left}
use Rattle.rinqebo_faults.proofs.namings.add_profile.Given as goal

abbrev pub invariant-loop-position : goal.invariant-loop-position
invariant-loop-position l =
    let each = rules_names l.profile (map (λ key. key.now) l.keys) in
    Left l.fn.firsts l.firsts (each l.position (nodes_view (drop l.position l.rules))) (each 0 (nodes_view l.rules))
