use Rattle.std.proofs.Common.{refl}
use Rattle.rinqebo_report.specs.declared.codes.code.Code.TheVariants.{ReservedProfile}
use Rattle.rinqebo_findings.specs.Warnings.{profile_steps}
use Rattle.rinqebo_findings.proofs.Warned.{warns_of}
use Rattle.rinqebo_findings.proofs.load_warnings.reserved_profile.Goals as goal

pub returns : goal.returns
returns c =
    let source = c.args.source in
    warns_of source.layers.now source.position ReservedProfile (profile_steps c.args.name.now) _ c.in_ok-found.ensures
    refl refl refl
