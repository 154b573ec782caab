use Rattle.std.proofs.Common.{◌∷◌, [], ◌∙◌, None, subst}
use Rattle.std.specs.Prelude.{OnOk}
use Rattle.rinqebo_report.specs.declared.codes.code.Code.TheVariants.{SecondToolFile}
use Rattle.rinqebo_findings.specs.Later.{AddsLater, of_file}
use Rattle.rinqebo_findings.specs.LaterWords.{says}
use Rattle.rinqebo_checks.proofs.refusals.add_second_file.Goals as goal

pub returns : goal.returns
returns c =
    let source = c.args.refused.now.source in
    subst
    (λ message. OnOk c.add_whole.result (AddsLater source.layers.now source.position
    (of_file SecondToolFile (says message None None) ∷ []) c.args.findings.now.items c.add_whole.new.findings.items))
    (c.as_str.ensures.value ∙ c.in_ok-wrong.ensures.ok) c.add_whole.ensures
