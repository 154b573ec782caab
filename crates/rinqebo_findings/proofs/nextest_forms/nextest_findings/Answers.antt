use Rattle.rinqebo_findings.proofs.LayerForms.{layers_more, layers_none}
use Rattle.rinqebo_findings.proofs.nextest_forms.nextest_findings.Goals as goal

pub loop-position-preserved : goal.loop-position-preserved
loop-position-preserved c =
    layers_more c.args.layers.now c.loop-position.position c.index-layers-position.result _ _
    c.loop-position-test.true c.index-layers-position.is c.loop-position.invariant c.in_ok-add_forms_of.ensures

pub returns : goal.returns
returns c =
    layers_none c.args.layers.now c.loop-position.position _ c.loop-position-test.false c.loop-position.invariant
