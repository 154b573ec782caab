use Rattle.std.proofs.Common.{ap}
use Rattle.std.proofs.lemmas.List.{drop_all}
use Rattle.nextest_tree.specs.View.{nodes_view}
use Rattle.rinqebo_findings.specs.NextestForms.{each_position, listed_faults}
use Rattle.rinqebo_findings.proofs.Forms.{left_more, left_none, position_next}
use Rattle.rinqebo_findings.proofs.nextest_features.add_listed_features.Goals as goal

pub loop-position-preserved : goal.loop-position-preserved
loop-position-preserved c =
    let source = c.args.refused.now.source in
    left_more source.layers.now source.position _ c.loop-position.findings.items _ _ _ _ _ c.loop-position.invariant
    (position_next listed_faults c.args.items.now c.loop-position.position c.index-items-position.result
    c.loop-position-test.true c.index-items-position.is)
    c.in_ok-add_listed_feature.ensures

pub returns : goal.returns
returns c =
    let source = c.args.refused.now.source in
    let position = c.loop-position.position in
    left_none source.layers.now source.position _ c.loop-position.findings.items _ _ c.loop-position.invariant
    (ap (λ ts. each_position listed_faults position (nodes_view ts))
    (drop_all position c.args.items.now c.loop-position-test.false))
