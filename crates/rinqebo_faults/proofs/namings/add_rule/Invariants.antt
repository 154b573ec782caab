use Rattle.std.proofs.Common.{drop, map}
use Rattle.nextest_tree.specs.View.{tree_view}
use Rattle.rinqebo_faults.specs.FileNamings.{rule_names}
use Rattle.rinqebo_faults.proofs.Named.{Left}
use Rattle.rinqebo_faults.proofs.namings.add_rule.Given as goal

abbrev pub invariant-loop-key : goal.invariant-loop-key
invariant-loop-key l =
    Left l.fn.firsts l.firsts
    (rule_names l.profile (map (λ key. key.now) (drop l.key-index l.keys)) l.position (tree_view l.rule))
    (rule_names l.profile (map (λ key. key.now) l.keys) l.position (tree_view l.rule))
