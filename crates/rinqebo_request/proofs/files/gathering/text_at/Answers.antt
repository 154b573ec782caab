use Rattle.std.proofs.Common.{◌≡◌, refl, subst, sym}
use Rattle.nextest_sources.specs.Sources.{outcome_view}
use Rattle.rinqebo_request.specs.declared.files.gathering.GatherFault.TheVariants as faults
use Rattle.rinqebo_request.proofs.files.Passing.{passed, text_of}
use Rattle.rinqebo_request.proofs.files.gathering.text_at.Goals as goal

pub returns-in_default-clause-ok : goal.returns-in_default-clause-ok
returns-in_default-clause-ok g c = rw c.in_default.is refl

pub returns-clause-ok : goal.returns-clause-ok
returns-clause-ok g c =
    rw c.in-Some.is (subst (g.R.FileReader.MayGive c.args.files.now c.in-Some.path.now) c.in_ok-text.ensures.ok
    c.in_ok-outcome.ensures)

pub returns-in_err-outcome-clause-err : goal.returns-in_err-outcome-clause-err
returns-in_err-outcome-clause-err g c =
    rw c.in-Some.is (passed _ c.from_residual.result faults.Memory c.from_residual.ensures.1 tt)

pub returns-in_err-text-clause-err : goal.returns-in_err-text-clause-err
returns-in_err-text-clause-err g c =
    let gives = g.R.FileReader.MayGive c.args.files.now c.in-Some.path.now in
    rw c.in-Some.is (passed _ c.from_residual-in_err-text.result c.in_err-text.field-0.0 c.from_residual-in_err-text.ensures.1
    (text_of c.in-Some.path.now c.args.option (λ given. given ≡ outcome_view c.in_ok-outcome.outcome) gives c.in_err-text.field-0.0
    (λ given same. subst gives (sym same) c.in_ok-outcome.ensures) c.in_err-text.ensures.err))
