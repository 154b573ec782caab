use Rattle.std.proofs.Common.{ℕ, ap}
use Rattle.std.proofs.lemmas.List.{drop_all}
use Rattle.nextest_tree.specs.View.{nodes_view}
use Rattle.rinqebo_findings.specs.NextestForms.{each_position, entry_faults, include_path, item_in}
use Rattle.rinqebo_findings.proofs.Forms.{left_more, left_none, position_next}
use Rattle.rinqebo_findings.proofs.nextest_archives.add_entries.Goals as goal

pub loop-position-preserved : goal.loop-position-preserved
loop-position-preserved c =
    let source = c.args.refused.now.source in
    let each = λ (position : ℕ). entry_faults (item_in (include_path c.args.profile.now) position) in
    left_more source.layers.now source.position _ c.loop-position.findings.items _ _ _ _ _ c.loop-position.invariant
    (position_next each c.args.entries.now c.loop-position.position c.index-entries-position.result
    c.loop-position-test.true c.index-entries-position.is)
    c.in_ok-add_entry.ensures

pub returns : goal.returns
returns c =
    let source = c.args.refused.now.source in
    let position = c.loop-position.position in
    let each = λ (position : ℕ). entry_faults (item_in (include_path c.args.profile.now) position) in
    left_none source.layers.now source.position _ c.loop-position.findings.items _ _ c.loop-position.invariant
    (ap (λ ts. each_position each position (nodes_view ts))
    (drop_all position c.args.entries.now c.loop-position-test.false))
