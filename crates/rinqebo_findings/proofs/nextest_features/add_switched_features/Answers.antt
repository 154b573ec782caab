use Rattle.std.proofs.Common.{ap, string_bytes, subst}
use Rattle.nextest_tree.specs.Schema.{each_entry}
use Rattle.nextest_tree.specs.View.{entries_view, tree_view}
use Rattle.rinqebo_findings.specs.NextestForms.{AddsForms, switch_faults}
use Rattle.rinqebo_findings.proofs.Forms.{left_more, left_none}
use Rattle.rinqebo_findings.proofs.nextest_features.add_switched_features.Goals as goal

pub loop-name-preserved : goal.loop-name-preserved
loop-name-preserved c =
    let source = c.args.refused.now.source in
    let now = c.loop-name.findings.items in
    let mid = c.add_switch.new.findings.items in
    let given = tree_view c.in-Some.given.now in
    left_more source.layers.now source.position _ now mid (switch_faults (string_bytes c.in-Some.name.now) given)
    (each_entry switch_faults (entries_view c.next.new.self)) _ _ c.loop-name.invariant
    (ap (λ es. each_entry switch_faults (entries_view es)) c.in-Some.ensures.steps)
    (subst (λ name. AddsForms source.layers.now source.position (switch_faults name given) now mid)
    c.as_str.ensures.value c.in_ok-add_switch.ensures)

pub returns : goal.returns
returns c =
    let source = c.args.refused.now.source in
    left_none source.layers.now source.position _ c.loop-name.findings.items _ _ c.loop-name.invariant
    (ap (λ es. each_entry switch_faults (entries_view es)) c.in-None.ensures.steps.0)
