use Rattle.std.proofs.Common.{◌∙◌, ◌∷◌, [], subst}
use Rattle.nextest_elements.specs.TestGroup.{custom_group_text}
use Rattle.nextest_elements.specs.declared.test_group.CustomTestGroup.{CustomTestGroup}
use Rattle.rinqebo_findings.specs.Later.{AddsLater, group_fault}
use Rattle.rinqebo_findings.specs.LaterWords.{own_prefix}
use Rattle.rinqebo_findings.proofs.AddsAll.{adds_each}
use Rattle.rinqebo_findings.proofs.Later.{adds_first}
use Rattle.rinqebo_findings.proofs.foreign.add_groups.Goals as goal

pub loop-group-preserved : goal.loop-group-preserved
loop-group-preserved c =
    let layers = c.args.refused.now.source.layers.now in
    let position = c.args.refused.now.source.position in
    let prefix = own_prefix layers position in
    λ new added. c.loop-group.invariant new
    (adds_first layers position (λ (group : CustomTestGroup). group_fault prefix (custom_group_text group) ∷ [])
    c.loop-group.group-iterator c.next.new.self c.in-Some.group.now _ _ _ c.in-Some.ensures.steps
    (subst
    (λ name. AddsLater layers position (group_fault prefix name ∷ []) c.loop-group.findings.items
    c.add_group.new.findings.items) c.as_str.ensures c.in_ok-add_group.ensures)
    added)

pub returns : goal.returns
returns c =
    let layers = c.args.refused.now.source.layers.now in
    let position = c.args.refused.now.source.position in
    let prefix = own_prefix layers position in
    adds_each layers position (λ (group : CustomTestGroup). group_fault prefix (custom_group_text group) ∷ [])
    c.args.groups.now.keys _ c.loop-group.group-iterator c.args.findings.now.items c.loop-group.findings.items
    c.in-None.ensures.steps.0
    (c.into_iter-group-iterator.ensures.into_iter_gives ∙ c.iter-group-items.ensures.rest)
    c.loop-group.invariant
