-- Which rules are evaluated to find those that hold for a test, beside what its settings need.
use Rattle.std.specs.Prelude.{◌≡◌, ◌++◌, ◌∷◌, ◌⊎◌, ◌&&◌, ◌+◌, ◌-◌, ◌^◌, [], ℕ, Bool, IsTrue, List, None, Option, Some, false, is_some, length, slice_get, unwrap_or}
use Rattle.nextest_elements.specs.declared.run_mode.NextestRunMode.{NextestRunMode}
use Rattle.nextest_elements.specs.declared.setting.Setting.{Setting}
use Rattle.nextest_engines.specs.Engines.{Binary}
use Rattle.nextest_rules.specs.Rules.{ScriptRuleUse}
use Rattle.nextest_settings.specs.Binaries.{EvaluatesOpen, answered_binary}
use Rattle.nextest_settings.specs.Deciding.{IsEvaluated, QueryContext, Rising, asked_from}
use Rattle.nextest_settings.specs.Platforms.{EvaluatedRule, is_on}
use Rattle.nextest_settings.specs.Profile.{EvaluatableModel}
use Rattle.nextest_settings.specs.Settings.{is_set}
use Rattle.nextest_settings.specs.declared.binary_answers.BinaryAnswers.{BinaryAnswers}
use Rattle.rinqebo_rules.specs.BinaryRules.{known_at, known_overrides, known_script_rules}
use Rattle.rinqebo_rules.specs.Passed.{IsHidden}
use Rattle.rinqebo_rules.specs.SetupRules.{names_setup}
use Rattle.rinqebo_rules.specs.Unused.{is_used}
use Rattle.rinqebo_rules.specs.declared.unused.UsedRules.{UsedRules}

-- whether a rule is evaluated where it is to be known whether it holds: its platforms hold, and it
-- has a filter
abbrev pub asks : {M W : Type 0} → QueryContext M → EvaluatedRule M W → Bool
asks query rule = is_on rule query.platform && is_some rule.filter

-- A rule is evaluated to find out whether it holds for a test: it held for no test so far, neither
-- the binary nor the settings show whether it holds, and it has a filter whose platforms hold.
pub record IsLeftOpen {M W : Type 0} (query : QueryContext M) (held : Bool) (known : Option Bool)
    (is_hidden : Type 0) (rule : EvaluatedRule M W) : Type 0 where
  pub unmarked : held ≡ false
  pub unknown : known ≡ None
  pub hidden : is_hidden
  pub asked : IsTrue (asks query rule)

-- no rule is evaluated, or one of a number, and that only if it has to be
abbrev pub EvaluatesIf : (must : Type 0) → ℕ → (old new : List ℕ) → Type 0
EvaluatesIf must number old new = (new ≡ old) ⊎ ((new ≡ old ++ number ∷ []) × must)

-- Rules of some numbers from a first one on are evaluated, each once and in order, and only those
-- that have to be.
abbrev pub EvaluatesOnly : (must : ℕ → Type 0) → (first : ℕ) → (old new : List ℕ) → Type 0
EvaluatesOnly must first old new =
    (numbers : List ℕ) × (new ≡ old ++ numbers) × Rising must first numbers

-- A rule of a number is left open, where rules are counted on from a first number.
pub record IsOpenAt {M W : Type 0} (query : QueryContext M) (used : List Bool)
    (known : List (Option Bool)) (shows : ℕ → W → Bool → Type 0) (first : ℕ)
    (rules : List (EvaluatedRule M W)) (number : ℕ) : Type 0 where
  pub place : ℕ
  pub numbered : number ≡ first + place
  pub rule : EvaluatedRule M W
  pub stands : slice_get rules place ≡ Some rule
  pub is_open : IsLeftOpen query (unwrap_or (slice_get used place) false)
      (known_at known place) (IsHidden (shows place rule.writes)) rule

-- A script rule is evaluated since it names a setup script: neither the binary nor the run wrapper
-- shows whether it holds, and it has a filter whose platforms hold.
pub record IsNamedOpen {M : Type 0} (query : QueryContext M) (known : Option Bool)
    (is_hidden : Type 0) (rule : EvaluatedRule M ScriptRuleUse) : Type 0 where
  pub names : IsTrue (names_setup rule.writes)
  pub unknown : known ≡ None
  pub hidden : is_hidden
  pub asked : IsTrue (asks query rule)

-- A script rule of a number is evaluated since it names a setup script, where rules are counted on
-- from a first number.
pub record IsNamedAt {M : Type 0} (query : QueryContext M) (known : List (Option Bool))
    (shows : ℕ → ScriptRuleUse → Bool → Type 0) (first : ℕ)
    (rules : List (EvaluatedRule M ScriptRuleUse)) (number : ℕ) : Type 0 where
  pub place : ℕ
  pub numbered : number ≡ first + place
  pub rule : EvaluatedRule M ScriptRuleUse
  pub stands : slice_get rules place ≡ Some rule
  pub is_open : IsNamedOpen query (known_at known place) (IsHidden (shows place rule.writes)) rule

-- A rule of a number is evaluated beside what the settings of a test need: it held for none of the
-- tests before, the binary of the test does not decide it, and, if no two rules have one id, the
-- search for the settings does not evaluate it.
pub record IsOpenIn {M W T : Type 0} (tests : List (QueryContext M)) (query : QueryContext M)
    (writes : T → W → Bool) (are_distinct : Bool) (known : List (Option Bool)) (first : ℕ)
    (rules : List (EvaluatedRule M W)) (number : ℕ) : Type 0 where
  pub place : ℕ
  pub numbered : number ≡ first + place
  pub rule : EvaluatedRule M W
  pub stands : slice_get rules place ≡ Some rule
  pub asked : IsTrue (asks query rule)
  pub unmatched : is_used tests rule ≡ false
  pub undecided : known_at known place ≡ None
  pub unneeded : IsTrue are_distinct → IsEvaluated writes query rules place → ⊥

-- Rules are evaluated, and then others, each once at most and in order.
abbrev pub EvaluatesBoth : (some others : ℕ → Type 0) → (first second : ℕ) → (old new : List ℕ)
    → Type 0
EvaluatesBoth P Q first second old new = (some : List ℕ) × (others : List ℕ)
    × (new ≡ old ++ (some ++ others)) × Rising P first some × Rising Q second others

-- a script rule of a number is evaluated beside what the run wrapper of a test needs
abbrev pub IsScriptOpenIn : {M : Type 0} → (tests : List (QueryContext M)) → QueryContext M
    → EvaluatableModel M → UsedRules → (known : List (Option Bool)) → ℕ → Type 0
IsScriptOpenIn tests query profile used known =
    IsOpenIn tests query (λ (wrapper : Unit {0}) w. is_some w.scripts.run_wrapper)
    used.are_script_rules_distinct known (length profile.overrides) profile.script_rules

-- an override of a number is evaluated beside what the settings of a test need
abbrev pub IsOverrideOpenIn : {M : Type 0} → (tests : List (QueryContext M)) → QueryContext M
    → NextestRunMode → EvaluatableModel M → UsedRules → (known : List (Option Bool)) → ℕ → Type 0
IsOverrideOpenIn tests query mode profile used known =
    IsOpenIn tests query (λ (s : Setting) w. is_set w.settings mode s) used.are_overrides_distinct
    known 0 profile.overrides

-- Rules of a profile are evaluated for a test beside those that its settings need: overrides, and
-- then script rules, which are counted on from them, each once at most and in order.
abbrev pub EvaluatesBeside : {M : Type 0} → (tests : List (QueryContext M)) → QueryContext M
    → NextestRunMode → EvaluatableModel M → UsedRules → (known known_scripts : List (Option Bool))
    → (old new : List ℕ) → Type 0
EvaluatesBeside tests query mode profile used known known_scripts =
    EvaluatesBoth (IsOverrideOpenIn tests query mode profile used known)
    (IsScriptOpenIn tests query profile used known_scripts) 0 (length profile.overrides)

-- A script rule of a number is evaluated since it names a setup script: neither the binary of the
-- test decides it nor, if no two rules have one id, does the search for the run wrapper evaluate it.
pub record IsOpenNamed {M : Type 0} (query : QueryContext M) (profile : EvaluatableModel M)
    (used : UsedRules) (known : List (Option Bool)) (number : ℕ) : Type 0 where
  pub is_open : IsScriptOpenIn [] query profile used known number
  pub names : IsTrue (names_setup is_open.rule.writes)

-- A script rule of a number is evaluated that names no setup script: it held for none of the tests
-- before, the binary of the test does not decide it, and, if no two rules have one id, the search
-- for the run wrapper does not evaluate it.
pub record IsOpenUnnamed {M : Type 0} (tests : List (QueryContext M)) (query : QueryContext M)
    (profile : EvaluatableModel M) (used : UsedRules) (known : List (Option Bool)) (number : ℕ)
    : Type 0 where
  pub is_open : IsScriptOpenIn tests query profile used known number
  pub names_none : names_setup is_open.rule.writes ≡ false

-- Rules of a profile are evaluated for a test beside those that its settings need, if it is to be
-- known which setup scripts it enables: script rules that name one, then overrides, and then the
-- other script rules, each once at most.
abbrev pub EvaluatesWithSetup : {M : Type 0} → (tests : List (QueryContext M)) → QueryContext M
    → NextestRunMode → EvaluatableModel M → UsedRules → (known known_scripts : List (Option Bool))
    → (old new : List ℕ) → Type 0
EvaluatesWithSetup tests query mode profile used known known_scripts old new =
    (named : List ℕ)
    × EvaluatesOnly (IsOpenNamed query profile used known_scripts) (length profile.overrides)
    old named
    × EvaluatesBoth (IsOverrideOpenIn tests query mode profile used known)
    (IsOpenUnnamed tests query profile used known_scripts) 0 (length profile.overrides) named new

-- the number under which the default filter is counted, which no rule has
abbrev pub default_filter_number : ℕ
default_filter_number = 2 ^ 64 - 1

-- the last test was one of a binary, so that it is known what the binary decides
abbrev pub IsTurnedTo : Option BinaryAnswers → Binary → Type 0
IsTurnedTo None binary = ⊥
IsTurnedTo (Some answers) binary = answered_binary answers ≡ binary

-- Filters are evaluated for a test whose binary is known to decide some rules: those that its
-- settings need and the binary leaves open, then those of rules that are left open beside them, and
-- then the default filter.
abbrev pub EvaluatesInTurn : {M : Type 0} → (tests : List (QueryContext M)) → QueryContext M
    → NextestRunMode → EvaluatableModel M → UsedRules → Option BinaryAnswers → (old new : List ℕ)
    → Type 0
EvaluatesInTurn tests query mode profile used answers old new =
    (settled : List ℕ) × (marked : List ℕ)
    × EvaluatesOpen (known_overrides answers) (asked_from ((λ w. is_some w.scripts.run_wrapper) ∷ [])
    (length profile.overrides) query [] profile.script_rules) old settled
    × EvaluatesBeside tests query mode profile used (known_overrides answers)
    (known_script_rules answers) settled marked
    × (new ≡ marked ++ default_filter_number ∷ [])

-- Filters are evaluated for a test of a report, whose binary is known to decide some rules: those
-- that its settings need and the binary leaves open, then those of rules that are left open beside
-- them, and then the default filter. So each filter is evaluated once at most, if no two rules of a
-- kind have one id.
abbrev pub EvaluatesReported : {M : Type 0} → (tests : List (QueryContext M)) → QueryContext M
    → NextestRunMode → EvaluatableModel M → UsedRules → Option BinaryAnswers → (old new : List ℕ)
    → Type 0
EvaluatesReported tests query mode profile used answers old new =
    (settled : List ℕ) × (marked : List ℕ)
    × EvaluatesOpen (known_overrides answers) (asked_from ((λ w. is_some w.scripts.run_wrapper) ∷ [])
    (length profile.overrides) query [] profile.script_rules) old settled
    × EvaluatesWithSetup tests query mode profile used (known_overrides answers)
    (known_script_rules answers) settled marked
    × (new ≡ marked ++ default_filter_number ∷ [])
