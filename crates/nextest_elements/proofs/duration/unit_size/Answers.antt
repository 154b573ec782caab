-- No unit is of no length.
use Rattle.std.proofs.Common.{◌≡◌, ◌<◌, sym, subst, rules}
use Rattle.std.specs.Prelude.{IfSome}
use Rattle.nextest_elements.specs.Duration.{duration_units}
use Rattle.nextest_elements.specs.DurationFunction.{unit_size}
use Rattle.nextest_elements.proofs.Durations.{unit_size-positive}
use Rattle.nextest_elements.proofs.duration.unit_size.Goals as goal

pub returns-clause-positive : goal.returns-clause-positive
unfolding unit_size duration_units
returns-clause-positive c =
    let size : c.size_among.result ≡ unit_size c.args.name.now = search rules in
    subst (λ result. IfSome result (λ size. 0 < size)) (sym size) (unit_size-positive c.args.name.now)
