use Rattle.std.proofs.Common.{◌≡◌, ◌≤◌, ◌++◌, ◌∷◌, [], ℕ, IsTrue, List, map, slice_get}
use Rattle.std.specs.List.{AllZip}
use Rattle.nextest_elements.specs.declared.run_mode.NextestRunMode.{NextestRunMode}
use Rattle.nextest_settings.specs.Deciding.{QueryContext}
use Rattle.nextest_settings.specs.Engines.{test_query_by}
use Rattle.nextest_elements.specs.Settings.{settings}
use Rattle.nextest_settings.specs.Settings.{is_set}
use Rattle.nextest_settings.specs.View.{meant_override}
use Rattle.rinqebo_rules.proofs.Evaluated.{EvaluatesBelow}
use Rattle.rinqebo_rules.proofs.SetMarks.{made_so_far}
use Rattle.rinqebo_rules.specs.BinaryRules.{AreKnownIn}
use Rattle.rinqebo_rules.specs.Distinct.{AreDistinct}
use Rattle.rinqebo_rules.specs.Evaluations.{IsOpenAt}
use Rattle.rinqebo_rules.specs.Passed.{AreWritten, IsPassed, IsShownBy, ids_of}
use Rattle.rinqebo_rules.specs.Unused.{is_used, written_at}
use Rattle.rinqebo_rules.proofs.unused.mark_overrides.Given as goal

-- The overrides so far are marked by whether they hold for some of the tests with this one, and only
-- those of them are evaluated that are left open.
abbrev pub invariant-loop-number : goal.invariant-loop-number
invariant-loop-number g l =
    let F = g.F.Filters in
    let rules = map (meant_override F.meaning) l.rules in
    let query = test_query_by F l.cx.default_filter.now l.query in
    record {
      marks : (mode : NextestRunMode) → AllZip (AreWritten mode) rules l.written
          → AllZip (λ s. IsPassed query (λ w. is_set w.settings mode s) (λ w. w.id) rules) settings l.passed
          → (IsTrue l.are_distinct → AreDistinct (ids_of (λ w. w.id) rules)) → AreKnownIn query rules l.known
          → (tests : List (QueryContext F.Meaning)) → l.fn.used ≡ map (is_used tests) rules
          → l.used ≡ made_so_far (is_used (tests ++ query ∷ [])) (is_used tests) rules l.number;
      kept : (m : ℕ) → l.number ≤ m → slice_get l.used m ≡ slice_get l.fn.used m;
      evaluated : EvaluatesBelow (IsOpenAt query l.fn.used l.known
          (λ n w. IsShownBy (written_at l.written n) n l.passed l.are_distinct) 0 rules) 0 l.number
          (g.F.Tally.Tally.numbers l.fn.tally) (g.F.Tally.Tally.numbers l.tally);
    }
