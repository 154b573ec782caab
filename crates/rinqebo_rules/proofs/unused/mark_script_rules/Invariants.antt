use Rattle.std.proofs.Common.{◌≡◌, ◌≤◌, ◌+◌, ◌++◌, ◌∷◌, [], ℕ, IsTrue, List, is_some, map, slice_get}
use Rattle.nextest_settings.specs.Deciding.{QueryContext}
use Rattle.nextest_settings.specs.Engines.{test_query_by}
use Rattle.nextest_settings.specs.View.{meant_script_rule}
use Rattle.rinqebo_rules.proofs.Evaluated.{EvaluatesBelow}
use Rattle.rinqebo_rules.proofs.SetMarks.{made_so_far}
use Rattle.rinqebo_rules.specs.BinaryRules.{AreKnownIn}
use Rattle.rinqebo_rules.specs.Distinct.{AreDistinct}
use Rattle.rinqebo_rules.specs.Evaluations.{IsOpenAt}
use Rattle.rinqebo_rules.specs.Passed.{IsPassed, IsShown, ids_of}
use Rattle.rinqebo_rules.specs.Unused.{is_used}
use Rattle.rinqebo_rules.proofs.unused.mark_script_rules.Given as goal

-- The script rules so far are marked by whether they hold for some of the tests with this one, and
-- only those of them are evaluated that are left open.
abbrev pub invariant-loop-number : goal.invariant-loop-number
invariant-loop-number g l =
    let F = g.F.Filters in
    let rules = map (meant_script_rule F.meaning) l.rules in
    let query = test_query_by F l.cx.default_filter.now l.query in
    record {
      marks : IsPassed query (λ w. is_some w.scripts.run_wrapper) (λ w. w.id) rules l.passed
          → (IsTrue l.are_distinct → AreDistinct (ids_of (λ w. w.id) rules)) → AreKnownIn query rules l.known
          → (tests : List (QueryContext F.Meaning)) → l.fn.used ≡ map (is_used tests) rules
          → l.used ≡ made_so_far (is_used (tests ++ query ∷ [])) (is_used tests) rules l.number;
      kept : (m : ℕ) → l.number ≤ m → slice_get l.used m ≡ slice_get l.fn.used m;
      evaluated : EvaluatesBelow (IsOpenAt query l.fn.used l.known
          (λ n w holds. IsTrue (is_some w.scripts.run_wrapper) × IsShown l.are_distinct n l.passed holds) l.first rules)
          l.first (l.first + l.number) (g.F.Tally.Tally.numbers l.fn.tally) (g.F.Tally.Tally.numbers l.tally);
    }
