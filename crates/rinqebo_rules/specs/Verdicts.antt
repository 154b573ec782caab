-- Verdicts on the rules of a profile.
use Rattle.std.specs.Prelude.{◌≡◌, ◌<◌, ℕ, List, [], ◌∷◌, ◌++◌, Bool, true, false, Some, is_some, slice_get}
use Rattle.nextest_settings.specs.Deciding.{QueryContext, rule_holds, decides, winner}
use Rattle.nextest_settings.specs.Platforms.{EvaluatedRule, is_on}
use Rattle.rinqebo_rules.specs.declared.verdict.RuleFacts.{RuleFacts}
use Rattle.rinqebo_rules.specs.declared.verdict.RuleVerdict.{RuleVerdict}
use Rattle.rinqebo_rules.specs.VerdictsBy.{verdict_by}

-- the verdict on a rule behind others, for something that rules may write
abbrev pub verdict_of : {M W : Type 0} → QueryContext M → (W → Bool) → List (EvaluatedRule M W)
    → EvaluatedRule M W → RuleVerdict
verdict_of query wants before rule =
    verdict_by (is_on rule query.platform) (rule_holds query rule)
    (wants rule.writes) (is_some (winner query wants before))

-- the verdicts on rules behind others
abbrev pub verdicts_after : {M W : Type 0} → QueryContext M → (W → Bool)
    → List (EvaluatedRule M W) → List (EvaluatedRule M W) → List RuleVerdict
verdicts_after query wants before [] = []
verdicts_after query wants before (rule ∷ rules) =
    verdict_of query wants before rule ∷ verdicts_after query wants (before ++ rule ∷ []) rules

-- the verdicts on rules, each behind those before it
abbrev pub verdicts_of : {M W : Type 0} → QueryContext M → (W → Bool) → List (EvaluatedRule M W)
    → List RuleVerdict
verdicts_of query wants rules = verdicts_after query wants [] rules

-- what is known of a rule
abbrev pub facts_of : {M W : Type 0} → QueryContext M → (W → Bool) → EvaluatedRule M W → RuleFacts
facts_of query wants rule = record {
  is_on = is_on rule query.platform;
  holds = rule_holds query rule;
  writes = wants rule.writes;
}

-- The rule at a place decides: it holds and writes the requested setting, and no earlier rule does.
pub record IsDeciding {M W : Type 0} (query : QueryContext M) (wants : W → Bool)
    (rules : List (EvaluatedRule M W)) (n : ℕ) (rule : EvaluatedRule M W) : Type 0 where
  pub holds : decides query wants rule ≡ true
  pub first : (m : ℕ) (earlier : EvaluatedRule M W) → m < n → slice_get rules m ≡ Some earlier
      → decides query wants earlier ≡ false
