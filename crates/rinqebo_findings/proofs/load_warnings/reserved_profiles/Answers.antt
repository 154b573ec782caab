use Rattle.std.proofs.Common.{ℕ, List, string_bytes, arith, subst}
use Rattle.rinqebo_report.specs.declared.codes.code.Code.TheVariants.{ReservedProfile}
use Rattle.rinqebo_findings.specs.Warnings.{profile_steps, WarnsOf}
use Rattle.rinqebo_findings.proofs.Each.{of_all, of_next}
use Rattle.rinqebo_findings.proofs.load_warnings.reserved_profiles.Goals as goal

pub loop-name-preserved : goal.loop-name-preserved
loop-name-preserved c =
    let source = c.args.source in
    let IsOf = λ (name : List ℕ). WarnsOf source.layers.now source.position ReservedProfile (profile_steps name) in
    of_next IsOf string_bytes c.args.names.now c.loop-name.name-index c.name-item.result c.loop-name.findings.items
    c.push.new.self.items c.in_ok-reserved_profile.field-0 c.loop-name-test.true c.name-item.is
    c.in_ok-push.ensures.items
    (subst (λ name. IsOf name c.in_ok-reserved_profile.field-0) c.as_str.ensures.value
    c.in_ok-reserved_profile.ensures) c.loop-name.invariant

pub returns : goal.returns
returns c =
    let source = c.args.source in
    of_all (λ (name : List ℕ). WarnsOf source.layers.now source.position ReservedProfile (profile_steps name))
    string_bytes c.args.names.now c.loop-name.name-index c.loop-name.findings.items (omega arith)
    c.loop-name.invariant
