-- Rules of which a binary decides whether they hold.
use Rattle.std.specs.Prelude.{◌≡◌, ℕ, Bool, List, [], Option, None, Some, option_and_then, slice_get}
use Rattle.nextest_engines.specs.Engines.{Binary}
use Rattle.nextest_load.specs.Closed.{BinaryMatch}
use Rattle.nextest_settings.specs.Binaries.{AreAnswersOf, IsKnownFor, answered_binary}
use Rattle.nextest_settings.specs.Deciding.{QueryContext}
use Rattle.nextest_settings.specs.Platforms.{EvaluatedRule}
use Rattle.nextest_settings.specs.Profile.{EvaluatableModel}
use Rattle.nextest_settings.specs.declared.binary_answers.BinaryAnswers.{BinaryAnswers}

-- Answers are those of the rules of a profile at a binary.
abbrev pub AreAnswersAt : {M : Type 0} → BinaryMatch M → EvaluatableModel M → Binary
    → BinaryAnswers → Type 0
AreAnswersAt matches profile binary answers =
    AreAnswersOf matches profile answers × (answered_binary answers ≡ binary)

-- what is known of the rule of a number: whether it holds for a test
abbrev pub known_at : List (Option Bool) → ℕ → Option Bool
known_at known number = option_and_then (λ holds. holds) (slice_get known number)

-- What is known of rules, by number, is so for a test.
abbrev pub AreKnownIn : {M W : Type 0} → QueryContext M → List (EvaluatedRule M W)
    → List (Option Bool) → Type 0
AreKnownIn {M} {W} query rules known = (n : ℕ) (rule : EvaluatedRule M W)
    → slice_get rules n ≡ Some rule
    → IsKnownFor query rule (known_at known n)

-- what is known of overrides, if something is
abbrev pub known_overrides : Option BinaryAnswers → List (Option Bool)
known_overrides None = []
known_overrides (Some answers) = answers.overrides.items

-- what is known of script rules, if something is
abbrev pub known_script_rules : Option BinaryAnswers → List (Option Bool)
known_script_rules None = []
known_script_rules (Some answers) = answers.script_rules.items
