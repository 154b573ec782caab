use Rattle.std.proofs.Common.{◌∷◌, [], ◌∙◌, subst}
use Rattle.nextest_scripts.specs.ScriptId.{script_text}
use Rattle.nextest_scripts.specs.declared.script_id.ScriptId.{ScriptId}
use Rattle.rinqebo_findings.specs.Later.{AddsLater, document_at, script_fault}
use Rattle.rinqebo_findings.specs.LaterWords.{own_prefix}
use Rattle.rinqebo_findings.proofs.AddsAll.{adds_each}
use Rattle.rinqebo_findings.proofs.Later.{adds_first}
use Rattle.rinqebo_findings.proofs.foreign.add_scripts.Goals as goal

pub loop-script-preserved : goal.loop-script-preserved
loop-script-preserved c =
    let layers = c.args.refused.now.source.layers.now in
    let position = c.args.refused.now.source.position in
    let file = document_at layers position in
    let prefix = own_prefix layers position in
    λ new added. c.loop-script.invariant new
    (adds_first layers position (λ (id : ScriptId). script_fault file prefix c.args.fault (script_text id) ∷ [])
    c.loop-script.script-iterator c.next.new.self c.in-Some.script.now _ _ _ c.in-Some.ensures.steps
    (subst
    (λ name. AddsLater layers position (script_fault file prefix c.args.fault name ∷ []) c.loop-script.findings.items
    c.add_script.new.findings.items) (c.as_str.ensures.value ∙ c.in_ok-name.ensures.ok) c.in_ok-add_script.ensures)
    added)

pub returns : goal.returns
returns c =
    let layers = c.args.refused.now.source.layers.now in
    let position = c.args.refused.now.source.position in
    let file = document_at layers position in
    let prefix = own_prefix layers position in
    adds_each layers position (λ (id : ScriptId). script_fault file prefix c.args.fault (script_text id) ∷ [])
    c.args.scripts.now.keys _ c.loop-script.script-iterator c.args.findings.now.items c.loop-script.findings.items
    c.in-None.ensures.steps.0
    (c.into_iter-script-iterator.ensures.into_iter_gives ∙ c.iter-script-items.ensures.rest)
    c.loop-script.invariant
