-- Which rule decides something, and which filters are evaluated for that.
use Rattle.std.specs.Prelude.{◌≡◌, ◌≤◌, ◌<◌, ◌+◌, ◌&&◌, slice_get, ℕ, List, [], ◌∷◌, ◌++◌, length, Bool, true, false, Option, None, Some, IsSome, IsTrue, is_some, is_none, find, if◌then◌else◌}
use Rattle.std.specs.List.{list_any}
use Rattle.nextest_engines.specs.declared.queries.BuildPlatform.{BuildPlatform}
use Rattle.nextest_settings.specs.Platforms.{EvaluatedRule, is_on}

-- What rules are judged for: the platform that a binary is built for, and which filters match.
pub record QueryContext (M : Type 0) : Type 0 where
  pub platform : BuildPlatform
  pub matches : M → Bool

-- a filter that is absent holds
abbrev pub filter_holds : {M : Type 0} → (M → Bool) → Option M → Bool
filter_holds matches None = true
filter_holds matches (Some m) = matches m

-- a rule holds where its platforms and its filter hold
abbrev pub rule_holds : {M W : Type 0} → QueryContext M → EvaluatedRule M W → Bool
rule_holds query rule = is_on rule query.platform && filter_holds query.matches rule.filter

-- a rule decides something if it holds and writes it
abbrev pub decides : {M W : Type 0} → QueryContext M → (W → Bool) → EvaluatedRule M W → Bool
decides query wants rule = rule_holds query rule && wants rule.writes

-- the first rule that holds and writes something
abbrev pub winner : {M W : Type 0} → QueryContext M → (W → Bool) → List (EvaluatedRule M W)
    → Option (EvaluatedRule M W)
winner query wants rules = find (decides query wants) rules

-- a rule's filter is evaluated where it has one, its platforms hold, and it writes one of the
-- things that no rule before it decides
abbrev pub is_asked : {M W : Type 0} → List (W → Bool) → QueryContext M
    → List (EvaluatedRule M W) → EvaluatedRule M W → Bool
is_asked things query before rule =
    is_some rule.filter && (is_on rule query.platform
    && list_any (λ wants. is_none (winner query wants before) && wants rule.writes) things)

-- the numbers of the rules whose filters are evaluated for some things, counted on from the first
-- number
abbrev pub asked_from : {M W : Type 0} → List (W → Bool) → ℕ → QueryContext M
    → List (EvaluatedRule M W) → List (EvaluatedRule M W) → List ℕ
asked_from things first query before [] = []
asked_from things first query before (rule ∷ rest) =
    (if is_asked things query before rule then (first + length before) ∷ [] else [])
    ++ asked_from things first query (before ++ rule ∷ []) rest

-- A rule is evaluated for things: it has a filter, its platforms hold, and it writes one of the
-- things which no rule below its place decides.
pub record IsEvaluated {T M W : Type 0} (writes : T → W → Bool) (query : QueryContext M)
    (rules : List (EvaluatedRule M W)) (place : ℕ) : Type 0 where
  pub rule : EvaluatedRule M W
  pub stands : slice_get rules place ≡ Some rule
  pub has_filter : IsSome rule.filter
  pub platforms_hold : IsTrue (is_on rule query.platform)
  pub thing : T
  pub written : IsTrue (writes thing rule.writes)
  pub undecided : (n : ℕ) (lower : EvaluatedRule M W) → n < place
      → slice_get rules n ≡ Some lower → decides query (writes thing) lower ≡ false

-- a strictly rising list of numbers from the least one on, of each of which P holds
abbrev pub Rising : (ℕ → Type 0) → ℕ → List ℕ → Type 0
Rising P least [] = Unit {0}
Rising P least (n ∷ ns) = (least ≤ n) × P n × Rising P (n + 1) ns

-- the filter of a number is there
abbrev pub HasFilterAt : {M : Type 0} → List (Option M) → ℕ → Type 0
HasFilterAt {M} filters n = (m : M) × (slice_get filters n ≡ Some (Some m))

-- an element is at the least number of those that pass a test
abbrev pub StandsFirst : {X : Type 0} → (X → Bool) → List X → X → Type 0
StandsFirst {X} passes xs x = (n : ℕ) × (slice_get xs n ≡ Some x) × (passes x ≡ true)
    × ((m : ℕ) (y : X) → m < n → slice_get xs m ≡ Some y → passes y ≡ false)
