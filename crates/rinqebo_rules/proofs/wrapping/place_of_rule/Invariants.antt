use Rattle.std.proofs.Common.{◌≡◌, ◌≢◌, ◌<◌, ℕ, Some, map, slice_get}
use Rattle.nextest_rules.specs.Rules.{ScriptRuleUse}
use Rattle.nextest_rules.specs.View.{script_rule_id_view}
use Rattle.nextest_settings.specs.Platforms.{EvaluatedRule}
use Rattle.nextest_settings.specs.View.{meant_script_rule}
use Rattle.rinqebo_rules.proofs.wrapping.place_of_rule.Given as goal

-- none of the script rules so far has the id
abbrev pub invariant-loop-number : goal.invariant-loop-number
invariant-loop-number g l =
    let F = g.F.Filters in
    (n : ℕ) (rule : EvaluatedRule F.Meaning ScriptRuleUse) → n < l.number
    → slice_get (map (meant_script_rule F.meaning) l.rules) n ≡ Some rule → rule.writes.id ≢ script_rule_id_view l.id
