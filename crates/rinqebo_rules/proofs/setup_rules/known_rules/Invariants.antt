use Rattle.std.proofs.Common.{◌≡◌, ◌<◌, ◌+◌, ℕ, IsTrue, Some, is_some, length, map, slice_get}
use Rattle.nextest_rules.specs.Rules.{ScriptRuleUse}
use Rattle.nextest_settings.specs.Engines.{test_query_by}
use Rattle.nextest_settings.specs.Platforms.{EvaluatedRule}
use Rattle.nextest_settings.specs.View.{meant_script_rule}
use Rattle.rinqebo_rules.proofs.Evaluated.{EvaluatesBelow}
use Rattle.rinqebo_rules.specs.BinaryRules.{AreKnownIn, known_at}
use Rattle.rinqebo_rules.specs.Distinct.{AreDistinct}
use Rattle.rinqebo_rules.specs.Evaluations.{IsNamedAt}
use Rattle.rinqebo_rules.specs.Passed.{IsPassed, IsShown, ids_of}
use Rattle.rinqebo_rules.specs.SetupRules.{IsKnownMore}
use Rattle.rinqebo_rules.proofs.setup_rules.known_rules.Given as goal

-- More is known of the script rules so far, and only those of them are evaluated that name a setup
-- script and are left open.
abbrev pub invariant-loop-number : goal.invariant-loop-number
invariant-loop-number g l =
    let F = g.F.Filters in
    let rules = map (meant_script_rule F.meaning) l.rules in
    let query = test_query_by F l.cx.default_filter.now l.query in
    record {
      each : IsPassed query (λ w. is_some w.scripts.run_wrapper) (λ w. w.id) rules l.passed
          → (IsTrue l.are_distinct → AreDistinct (ids_of (λ w. w.id) rules)) → AreKnownIn query rules l.known
          → (m : ℕ) (rule : EvaluatedRule F.Meaning ScriptRuleUse) → m < l.number → slice_get rules m ≡ Some rule
          → IsKnownMore query rule (known_at l.known m) (known_at l.more.items m);
      long : length l.more.items ≡ l.number;
      evaluated : EvaluatesBelow (IsNamedAt query l.known
          (λ n w holds. IsTrue (is_some w.scripts.run_wrapper) × IsShown l.are_distinct n l.passed holds) l.first rules)
          l.first (l.first + l.number) (g.F.Tally.Tally.numbers l.fn.tally) (g.F.Tally.Tally.numbers l.tally);
    }
