-- Script rules that name setup scripts, and what is known of them for a test.
use Rattle.std.specs.Prelude.{◌≡◌, ◌==◌, ℕ, Bool, IsTrue, List, None, Option, Some, is_some, length, not, slice_get}
use Rattle.nextest_rules.specs.Rules.{ScriptRuleUse}
use Rattle.nextest_settings.specs.Binaries.{IsKnownFor}
use Rattle.nextest_settings.specs.Deciding.{QueryContext}
use Rattle.nextest_settings.specs.Platforms.{EvaluatedRule}
use Rattle.rinqebo_rules.specs.BinaryRules.{known_at}

-- whether a script rule names a setup script
abbrev pub names_setup : ScriptRuleUse → Bool
names_setup w = not (length w.scripts.setup == 0)

-- More is known of a script rule for a test: whether it holds, if it names a setup script. What was
-- known before is known.
pub record IsKnownMore {M : Type 0} (query : QueryContext M) (rule : EvaluatedRule M ScriptRuleUse)
    (known more : Option Bool) : Type 0 where
  pub so : IsKnownFor query rule more
  pub named : IsTrue (names_setup rule.writes) → IsTrue (is_some more)
  pub kept : more ≡ None → known ≡ None

-- more is known of script rules for a test, by number
abbrev pub AreKnownMore : {M : Type 0} → QueryContext M → List (EvaluatedRule M ScriptRuleUse)
    → (known more : List (Option Bool)) → Type 0
AreKnownMore {M} query rules known more = (n : ℕ) (rule : EvaluatedRule M ScriptRuleUse)
    → slice_get rules n ≡ Some rule → IsKnownMore query rule (known_at known n) (known_at more n)
