-- Once the number is above the limit, so is the whole.
use Rattle.std.proofs.Common.{◌≡◌, ◌+◌, ◌-◌, ◌*◌, ◌∙◌, sym, ap, get_or, arith}
use Rattle.std.specs.Prelude.{None}
use Rattle.nextest_elements.specs.DurationSteps.{within_limit}
use Rattle.nextest_elements.proofs.Durations.{number_above}
use Rattle.nextest_elements.proofs.duration.number_of.Goals as goal

pub returns-in_err-number : goal.returns-in_err-number
returns-in_err-number c =
    let digits = c.args.digits.now in
    let loop = c.loop-digit in
    let above : within_limit (loop.number * 10 + (get_or digits loop.digit-index 0 - 48)) ≡ None =
    ap (λ d. within_limit (loop.number * 10 + d)) (sym c.from.ensures) ∙ sym c.within_limit.ensures
    ∙ c.in_err-number.was in
    c.from_residual.ensures
    ∙ sym (number_above loop.number digits loop.digit-index (omega arith) c.requires loop.invariant.goes_on above)
