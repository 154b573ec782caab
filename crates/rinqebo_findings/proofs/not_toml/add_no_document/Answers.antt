use Rattle.std.proofs.Common.{◌∙◌, ◌∷◌, [], ap, subst}
use Rattle.std.specs.Prelude.{OnOk}
use Rattle.rinqebo_report.specs.declared.codes.code.Code.TheVariants.{NotToml}
use Rattle.rinqebo_findings.specs.Later.{AddsLater, of_file, reason_or}
use Rattle.rinqebo_findings.specs.LaterWords.{says_no_toml}
use Rattle.rinqebo_findings.proofs.not_toml.add_no_document.Goals as goal

pub returns-in-Some : goal.returns-in-Some
returns-in-Some c =
    let source = c.args.refused.now.source in
    subst
    (λ reason. OnOk c.add_at.result (AddsLater source.layers.now source.position
    (of_file NotToml (says_no_toml reason) ∷ []) c.args.findings.now.items c.add_at.new.findings.items))
    (c.as_str.ensures.value ∙ ap (reason_or c.args.message.now) c.in-Some.ensures) c.add_at.ensures

pub returns-in-None : goal.returns-in-None
returns-in-None c =
    let source = c.args.refused.now.source in
    subst
    (λ reason. OnOk c.add_reason.result (AddsLater source.layers.now source.position
    (of_file NotToml (says_no_toml reason) ∷ []) c.args.findings.now.items c.add_reason.new.findings.items))
    (ap (reason_or c.args.message.now) c.in-None.ensures) c.add_reason.ensures
