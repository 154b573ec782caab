use Rattle.std.proofs.Common.{drop}
use Rattle.nextest_tree.specs.View.{nodes_view}
use Rattle.rinqebo_findings.specs.NextestForms.{each_position, listed_faults}
use Rattle.rinqebo_findings.proofs.Forms.{Left}
use Rattle.rinqebo_findings.proofs.nextest_features.add_listed_features.Given as goal

-- the items that are left
abbrev pub invariant-loop-position : goal.invariant-loop-position
invariant-loop-position l =
    let source = l.refused.source in
    Left source.layers.now source.position l.fn.findings.items l.findings.items
    (each_position listed_faults l.position (nodes_view (drop l.position l.items)))
    (each_position listed_faults 0 (nodes_view l.items))
