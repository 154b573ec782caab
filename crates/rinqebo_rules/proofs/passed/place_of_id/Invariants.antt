use Rattle.std.proofs.Common.{◌≡◌, ◌≢◌, ◌<◌, ℕ, Some, map, slice_get}
use Rattle.nextest_rules.specs.Rules.{OverrideUse}
use Rattle.nextest_rules.specs.View.{id_view}
use Rattle.nextest_settings.specs.Platforms.{EvaluatedRule}
use Rattle.nextest_settings.specs.View.{meant_override}
use Rattle.rinqebo_rules.proofs.passed.place_of_id.Given as goal

-- none of the overrides so far has the id
abbrev pub invariant-loop-number : goal.invariant-loop-number
invariant-loop-number g l =
    let F = g.F.Filters in
    (n : ℕ) (rule : EvaluatedRule F.Meaning (OverrideUse F.Meaning)) → n < l.number
    → slice_get (map (meant_override F.meaning) l.rules) n ≡ Some rule → rule.writes.id ≢ id_view l.id
