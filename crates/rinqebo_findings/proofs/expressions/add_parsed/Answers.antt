use Rattle.rinqebo_findings.proofs.Later.{adds_both}
use Rattle.rinqebo_findings.proofs.expressions.add_parsed.Goals as goal

pub returns : goal.returns
returns c =
    let layers = c.args.refused.now.source.layers.now in
    let position = c.args.refused.now.source.position in
    adds_both layers position _ _ _ _ _ c.in_ok-add_host.ensures
    (adds_both layers position _ _ _ _ _ c.in_ok-add_target.ensures
    (adds_both layers position _ _ _ _ _ c.in_ok-add_filter.ensures c.in_ok-add_filter-2.ensures))
