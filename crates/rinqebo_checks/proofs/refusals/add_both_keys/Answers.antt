use Rattle.std.proofs.Common.{◌∷◌, [], codes, None, Some, subst}
use Rattle.std.specs.Prelude.{OnOk}
use Rattle.nextest_places.specs.Spans.Paths as paths
use Rattle.rinqebo_report.specs.declared.codes.code.Code.TheVariants.{TwoScriptTables}
use Rattle.rinqebo_request.specs.declared.files.places.SpanPart.TheVariants as parts
use Rattle.rinqebo_findings.specs.Later.{AddsLater, at}
use Rattle.rinqebo_findings.specs.LaterWords.{says}
use Rattle.rinqebo_checks.proofs.refusals.add_both_keys.Goals as goal

pub returns : goal.returns
returns c =
    let source = c.args.refused.now.source in
    subst
    (λ help. OnOk c.add_fault.result (AddsLater source.layers.now source.position
    (at parts.Key TwoScriptTables (paths.key (codes "scripts") ∷ [])
    (says (codes "there are `scripts` and its old form, `script`") None (Some help)) ∷ [])
    c.args.findings.now.items c.add_fault.new.findings.items))
    c.in_ok-help.ensures.ok c.add_fault.ensures
