-- What a binary decides of rules, whichever of its tests is looked at.
use Rattle.std.specs.Prelude.{◌≡◌, ◌++◌, ℕ, All, Bool, true, false, List, Option, None, Some, IfSome, if◌then◌else◌, map, string_bytes}
use Rattle.std.specs.List.{AllZip}
use Rattle.nextest_engines.specs.Engines.{Binary, Test}
use Rattle.nextest_load.specs.Closed.{BinaryMatch}
use Rattle.nextest_rules.specs.Rules.{OverrideUse, ScriptRuleUse}
use Rattle.nextest_settings.specs.Deciding.{QueryContext, rule_holds}
use Rattle.nextest_settings.specs.Platforms.{EvaluatedRule, is_on}
use Rattle.nextest_settings.specs.Profile.{EvaluatableModel}
use Rattle.nextest_settings.specs.declared.binary_answers.BinaryAnswers.{BinaryAnswers}
use Rattle.nextest_settings.specs.declared.binary_answers.KeptBinary.{KeptBinary}
use Rattle.rule_lists.specs.Lists.{IsOpen}

-- what a filter matches of a binary: all, if there is none; none is known where it depends on the
-- test
abbrev pub filter_answer : {M : Type 0} → BinaryMatch M → (default : M) → Binary → Option M
    → Option Bool
filter_answer matches default binary None = Some true
filter_answer matches default binary (Some m) = matches m binary default

-- Whether a rule holds for each test of a binary, or none where that depends on the test: it holds
-- for none where its platforms do not, and is else as its filter matches the binary.
abbrev pub binary_answer : {M W : Type 0} → BinaryMatch M → (default : M) → Binary
    → EvaluatedRule M W → Option Bool
binary_answer matches default binary rule =
    if is_on rule binary.platform then filter_answer matches default binary rule.filter
    else Some false

-- What filters match of a binary, they match of each of its tests.
abbrev pub SpeakForTests : {M : Type 0} → (M → Test → M → Bool) → BinaryMatch M → Type 0
SpeakForTests {M} holds matches = (m : M) (test : Test) (default : M) (b : Bool)
    → matches m test.binary default ≡ Some b → holds m test default ≡ b

-- a binary that is kept
abbrev pub kept_binary : KeptBinary → Binary
kept_binary binary = record {
  package_id = string_bytes binary.package_id;
  binary_id = string_bytes binary.binary_id;
  kind = string_bytes binary.kind;
  binary_name = string_bytes binary.binary_name;
  platform = binary.platform;
}

-- the binary of which rules are known
abbrev pub answered_binary : BinaryAnswers → Binary
answered_binary answers = kept_binary answers.binary

-- Answers are those of rules at their binary.
abbrev pub AreAnswers : {M : Type 0} → BinaryMatch M → (default : M)
    → List (EvaluatedRule M (OverrideUse M)) → List (EvaluatedRule M ScriptRuleUse) → BinaryAnswers
    → Type 0
AreAnswers matches default overrides script_rules answers =
    (answers.overrides.items
    ≡ map (binary_answer matches default (answered_binary answers)) overrides)
    × (answers.script_rules.items
    ≡ map (binary_answer matches default (answered_binary answers)) script_rules)

-- Answers are those of the rules of a profile at their binary.
abbrev pub AreAnswersOf : {M : Type 0} → BinaryMatch M → EvaluatableModel M → BinaryAnswers
    → Type 0
AreAnswersOf matches profile answers =
    AreAnswers matches profile.default_filter.filter profile.overrides profile.script_rules answers

-- What is known of a rule is so for a test: it holds, or it does not.
abbrev pub IsKnownFor : {M W : Type 0} → QueryContext M → EvaluatedRule M W → Option Bool → Type 0
IsKnownFor query rule known = IfSome known (λ b. rule_holds query rule ≡ b)

-- What is known of rules is so for a test.
abbrev pub AreKnownFor : {M W : Type 0} → QueryContext M → List (EvaluatedRule M W)
    → List (Option Bool) → Type 0
AreKnownFor query rules known = AllZip (IsKnownFor query) rules known

-- Overrides are evaluated that are not known, and then the rules of these numbers.
abbrev pub EvaluatesOpen : (known : List (Option Bool)) → (others old new : List ℕ) → Type 0
EvaluatesOpen known others old new =
    (open_rules : List ℕ) × (new ≡ old ++ (open_rules ++ others)) × All (IsOpen 0 known) open_rules
