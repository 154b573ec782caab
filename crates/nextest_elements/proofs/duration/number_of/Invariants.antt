use Rattle.std.proofs.Common.{◌≡◌, ◌≤◌, drop}
use Rattle.std.specs.Str.Parse.{digits_value, digits_value_after}
use Rattle.nextest_elements.specs.Duration.{longest_duration}
use Rattle.nextest_elements.proofs.duration.number_of.Given as goal

-- the digits that are left go on from the number so far
abbrev pub invariant-loop-digit : goal.invariant-loop-digit
invariant-loop-digit l = record {
  bounded : l.number ≤ longest_duration;
  goes_on : digits_value_after 10 l.number (drop l.digit-index l.digits) ≡ digits_value 10 l.digits;
}
