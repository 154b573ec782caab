-- Lists of rules by their numbers, and what is found in them.
use Rattle.std.specs.Prelude.{◌≡◌, ◌<◌, ◌≤◌, ◌↔◌, ◌+◌, ◌-◌, ◌&&◌, ℕ, Bool, true, Contains, IsTrue, Option, None, Some, is_none, option_and_then, slice_get, List, [], ◌∷◌, ◌++◌, map, find, if◌then◌else◌}
use Rattle.std.specs.List.{list_any}

-- a rule that passes a test is at a number, where rules are counted on from the first number
abbrev pub StandsAt : {R : Type 0} → (R → Bool) → (first : ℕ) → List R → ℕ → Type 0
StandsAt {R} test first rules n =
    (k : ℕ) × (r : R) × (n ≡ first + k) × (slice_get rules k ≡ Some r) × (test r ≡ true)

-- numbers rise strictly from the least one on
abbrev pub Rises : ℕ → List ℕ → Type 0
Rises least [] = Unit {0}
Rises least (n ∷ ns) = (least ≤ n) × Rises (n + 1) ns

-- Numbers are the rising list of the rules that pass a test: they rise strictly, and a number is
-- among them exactly if there is such a rule.
pub record IsListOf {R : Type 0} (test : R → Bool) (first : ℕ) (rules : List R)
    (numbers : List ℕ) : Type 0 where
  pub rising : Rises first numbers
  pub exact : (n : ℕ) → Contains numbers n ↔ StandsAt test first rules n

-- each rule in some list has a known value
abbrev pub HaveAnswers : {R : Type 0} → List (R → Bool) → (R → Type 0) → List R → Type 0
HaveAnswers {R} tests has_answer rules = (k : ℕ) (r : R) → slice_get rules k ≡ Some r
    → IsTrue (list_any (λ test. test r) tests) → has_answer r

-- what is known of the rules in lists, by their places: whether each is met
abbrev pub AreKnown : {R : Type 0} → List (R → Bool) → (R → Bool) → List R → List (Option Bool)
    → Type 0
AreKnown {R} tests met rules known = (k : ℕ) (r : R) (b : Bool) → slice_get rules k ≡ Some r
    → IsTrue (list_any (λ test. test r) tests) → slice_get known k ≡ Some (Some b) → met r ≡ b

-- it is not known whether the rule of a number is met
abbrev pub IsOpen : (first : ℕ) → List (Option Bool) → ℕ → Type 0
IsOpen first known n = option_and_then (λ met. met) (slice_get known (n - first)) ≡ None

-- the first rule that is met and passes a test
abbrev pub first_of : {R : Type 0} → (R → Bool) → (R → Bool) → List R → Option R
first_of met test rules = find (λ r. test r && met r) rules

-- the first rule of each test
abbrev pub firsts : {R : Type 0} → (R → Bool) → List (R → Bool) → List R → List (Option R)
firsts met tests rules = map (λ test. first_of met test rules) tests

-- whether a rule passes a test for which no rule before it was found
abbrev pub is_wanted : {R : Type 0} → (R → Bool) → List (R → Bool) → List R → R → Bool
is_wanted met tests before r =
    list_any (λ test. is_none (first_of met test before) && test r) tests

-- the numbers of the rules that are evaluated, counted on from n: they have a filter, and pass a
-- test for which no rule before them was found
abbrev pub asked_from : {R : Type 0} → (R → Bool) → (R → Bool) → List (R → Bool) → ℕ
    → List R → List R → List ℕ
asked_from asks met tests n before [] = []
asked_from asks met tests n before (r ∷ rest) =
    (if asks r && is_wanted met tests before r then n ∷ [] else [])
    ++ asked_from asks met tests (n + 1) (before ++ r ∷ []) rest
