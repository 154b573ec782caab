use Rattle.std.proofs.Common.{◌≡◌, ◌∙◌, ◌∷◌, [], ap, map, string_bytes, subst, sym}
use Rattle.std.proofs.lemmas.Result.{on_ok_weaker}
use Rattle.rinqebo_report.specs.declared.codes.code.Code.TheVariants.{InheritanceCycle}
use Rattle.rinqebo_findings.specs.Later.{cycle_fault, LaterFault, parent_fault}
use Rattle.rinqebo_findings.specs.LaterWords.{IsCycleText, says_cycle}
use Rattle.rinqebo_findings.proofs.InCycles.{at_first, cycle_said, no_cycle, reworded}
use Rattle.rinqebo_findings.proofs.Later.{adds_same}
use Rattle.rinqebo_findings.proofs.cycles.add_cycle.Goals as goal

pub returns-in-Some : goal.returns-in-Some
returns-in-Some c =
    let source = c.args.refused.now.source in
    let profiles = map string_bytes c.args.cycle.now in
    let is_text : IsCycleText source.layers.now source.position profiles c.as_str-words.result.now =
    subst (IsCycleText source.layers.now source.position profiles) (sym c.as_str-words.ensures.value) c.in_ok-text.ensures in
    let same : parent_fault InheritanceCycle c.as_str.result.now (says_cycle profiles) ≡ cycle_fault profiles =
    ap (λ name. parent_fault InheritanceCycle name (says_cycle profiles)) c.as_str.ensures.value
    ∙ at_first c.args.cycle.now c.in-Some.first.now c.in-Some.ensures.value in
    on_ok_weaker c.add_cycle_at.result
    (adds_same source.layers.now source.position _ _ _ _ (ap (λ (fault : LaterFault). fault ∷ []) same))
    (c.add_cycle_at.ensures is_text)

pub returns : goal.returns
returns c =
    let source = c.args.refused.now.source in
    let profiles = map string_bytes c.args.cycle.now in
    let is_text : IsCycleText source.layers.now source.position profiles c.as_str-words.result.now =
    subst (IsCycleText source.layers.now source.position profiles) (sym c.as_str-words.ensures.value) c.in_ok-text.ensures in
    on_ok_weaker c.add_whole.result
    (λ adds. adds_same source.layers.now source.position _ _ _ _
    (ap (λ (fault : LaterFault). fault ∷ []) (no_cycle c.args.cycle.now c.in-None.ensures.value))
    (reworded source.layers.now source.position InheritanceCycle _ (says_cycle profiles) _ _
    (cycle_said source.layers.now source.position profiles c.as_str-words.result.now is_text) adds))
    c.add_whole.ensures
