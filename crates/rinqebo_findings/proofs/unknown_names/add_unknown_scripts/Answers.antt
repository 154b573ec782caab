use Rattle.std.proofs.Common.{◌∙◌, List, ℕ, ap, map, string_bytes, subst}
use Rattle.rinqebo_faults.specs.Edits.{names_view}
use Rattle.rinqebo_faults.specs.Hints.{texts}
use Rattle.rinqebo_findings.specs.Later.{AddsLater, unknown_script_faults}
use Rattle.rinqebo_findings.proofs.Each.{taken}
use Rattle.rinqebo_findings.proofs.Later.{adds_next}
use Rattle.rinqebo_findings.proofs.unknown_names.add_unknown_scripts.Goals as goal

pub loop-error-preserved : goal.loop-error-preserved
loop-error-preserved c =
    let source = c.args.refused.now.source in
    let namings = c.args.namings.now in
    let left_out = names_view c.args.refused.now.left_out.now.scripts in
    let known = map string_bytes c.args.known.now.keys in
    adds_next source.layers.now source.position (unknown_script_faults namings left_out known) c.args.errors.now
    c.loop-error.error-index
    c.error-item.result _ _ _ (taken _ _ _ c.loop-error-test.true c.error-item.is)
    c.loop-error.invariant
    (subst
    (λ (names : List (List ℕ)). AddsLater source.layers.now source.position
    (unknown_script_faults namings left_out names c.error-item.result) c.loop-error.findings.items
    c.add_unknown_script.new.findings.items)
    (ap texts c.deref.ensures.value ∙ c.in_ok-names.ensures) c.in_ok-add_unknown_script.ensures)
