use Rattle.std.proofs.Common.{◌∷◌, [], codes, refl}
use Rattle.nextest_places.specs.Spans.Paths as paths
use Rattle.rinqebo_report.specs.declared.codes.code.Code.TheVariants.{OldScriptTable}
use Rattle.rinqebo_findings.specs.Warnings.{WarnsOf}
use Rattle.rinqebo_findings.proofs.Warned.{of_one, warns_of}
use Rattle.rinqebo_findings.proofs.load_warnings.old_scripts.Goals as goal

pub returns : goal.returns
returns c =
    let source = c.args.source in
    let path = paths.key (codes "script") ∷ [] in
    of_one (WarnsOf source.layers.now source.position OldScriptTable) path _ _ c.in_ok-only.ensures
    (warns_of source.layers.now source.position OldScriptTable path _ c.in_ok-found.ensures refl refl refl)
