use Rattle.std.proofs.Common.{codes, refl}
use Rattle.rinqebo_report.specs.declared.codes.code.Code.TheVariants.{EmptyScriptRule}
use Rattle.rinqebo_faults.specs.Paths.{profile_path}
use Rattle.rinqebo_findings.specs.Warnings.{WarnsOf}
use Rattle.rinqebo_findings.proofs.Warned.{of_one, warns_of}
use Rattle.rinqebo_findings.proofs.load_warnings.empty_rules.Goals as goal

pub returns : goal.returns
returns c =
    let source = c.args.source in
    let path = profile_path c.args.profile.now (codes "scripts") in
    of_one (WarnsOf source.layers.now source.position EmptyScriptRule) path _ _ c.in_ok-only.ensures
    (warns_of source.layers.now source.position EmptyScriptRule path _ c.in_ok-found.ensures refl refl
    c.profile_path.ensures)
