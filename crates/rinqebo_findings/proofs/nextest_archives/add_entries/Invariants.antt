use Rattle.std.proofs.Common.{ℕ, drop}
use Rattle.nextest_tree.specs.View.{nodes_view}
use Rattle.rinqebo_findings.specs.NextestForms.{each_position, entry_faults, include_path, item_in}
use Rattle.rinqebo_findings.proofs.Forms.{Left}
use Rattle.rinqebo_findings.proofs.nextest_archives.add_entries.Given as goal

-- the entries that are left
abbrev pub invariant-loop-position : goal.invariant-loop-position
invariant-loop-position l =
    let source = l.refused.source in
    let each = λ (position : ℕ). entry_faults (item_in (include_path l.profile) position) in
    Left source.layers.now source.position l.fn.findings.items l.findings.items
    (each_position each l.position (nodes_view (drop l.position l.entries)))
    (each_position each 0 (nodes_view l.entries))
