-- Rules that are evaluated one after another.
use Rattle.std.proofs.Common.{◌≡◌, ◌∙◌, ◌<◌, ◌≤◌, ◌+◌, ◌++◌, ◌∷◌, [], ℕ, zero, suc, Bool, IsTrue, List, Option, Some, ap, append_assoc, arith, false, if◌then◌else◌, inl, inr, map, refl, slice_get, slice_set, sym, true}
use Rattle.std.proofs.lemmas.List.{append-nil}
use Rattle.nextest_settings.specs.Deciding.{IsEvaluated, QueryContext, Rising}
use Rattle.nextest_settings.specs.Platforms.{EvaluatedRule}
use Rattle.rinqebo_rules.specs.Evaluations.{EvaluatesIf, EvaluatesOnly, IsOpenAt, IsOpenIn}
use Rattle.rinqebo_rules.specs.Passed.{IsHidden}
use Rattle.rinqebo_rules.specs.Unused.{is_used}
use Rattle.rinqebo_rules.proofs.Marked.{mark_of}

-- numbers rise strictly from the least one on, below an end, and something holds of each
abbrev pub RisesBelow : (ℕ → Type 0) → (least end : ℕ) → List ℕ → Type 0
RisesBelow P least end [] = least ≤ end
RisesBelow P least end (n ∷ ns) = (least ≤ n) × P n × RisesBelow P (n + 1) end ns

-- rules of some numbers from a first one on, below an end, are evaluated so far
abbrev pub EvaluatesBelow : (must : ℕ → Type 0) → (first end : ℕ) → (old new : List ℕ) → Type 0
EvaluatesBelow must first end old new =
    (numbers : List ℕ) × (new ≡ old ++ numbers) × RisesBelow must first end numbers

module _ (P : ℕ → Type 0) where
  rises_on : (least end next : ℕ) (ns : List ℕ) → next ≡ end + 1 → RisesBelow P least end ns → RisesBelow P least next ns
  rises_on least end next [] more rises = omega (arith, more, rises)
  rises_on least end next (n ∷ ns) more rises = (rises.0, rises.1, rises_on (n + 1) end next ns more rises.2)

  rises_more : (least end next : ℕ) (ns : List ℕ) → next ≡ end + 1 → RisesBelow P least end ns → P end
      → RisesBelow P least next (ns ++ end ∷ [])
  rises_more least end next [] more rises holds = (rises, holds, omega (arith, more))
  rises_more least end next (n ∷ ns) more rises holds =
      (rises.0, rises.1, rises_more (n + 1) end next ns more rises.2 holds)

  all_rise : (least end : ℕ) (ns : List ℕ) → RisesBelow P least end ns → Rising P least ns
  all_rise least end [] rises = tt
  all_rise least end (n ∷ ns) rises = (rises.0, rises.1, all_rise (n + 1) end ns rises.2)

  -- none is evaluated so far
  pub none_evaluated : (first end : ℕ) (old : List ℕ) → first ≤ end → EvaluatesBelow P first end old old
  none_evaluated first end old past = ([], sym (append-nil old), past)

  -- one rule more is evaluated, or none, and that only if it has to be
  pub evaluated_more : (need : Type 0) (first end next : ℕ) (old now new : List ℕ) → next ≡ end + 1
      → EvaluatesBelow P first end old now → EvaluatesIf need end now new → (need → P end)
      → EvaluatesBelow P first next old new
  evaluated_more need first end next old now new more so_far one must = elim one [
    | inl same ↦ (so_far.0, same ∙ so_far.1, rises_on first end next so_far.0 more so_far.2)
    | inr w ↦ (
      so_far.0 ++ end ∷ [],
      w.0 ∙ ap (λ ns. ns ++ end ∷ []) so_far.1 ∙ append_assoc old so_far.0 (end ∷ []),
      rises_more first end next so_far.0 more so_far.2 (must w.1),
    )
  ]

  -- all are evaluated
  pub evaluated_all : (first end : ℕ) (old new : List ℕ) → EvaluatesBelow P first end old new
      → EvaluatesOnly P first old new
  evaluated_all first end old new so_far = (so_far.0, so_far.1, all_rise first end so_far.0 so_far.2)

-- a rule is evaluated if it asks for it
pub evaluated_if : (asked : Bool) (need : Type 0) (number : ℕ) (old new : List ℕ)
    → new ≡ old ++ (if asked then number ∷ [] else []) → need → EvaluatesIf (IsTrue asked × need) number old new
evaluated_if true need number old new is holds = inr (is, (refl, holds))
evaluated_if false need number old new is holds = inl (is ∙ append-nil old)

-- what is behind a place that is set stays
pub get_behind_set : {A : Type 0} (xs : List A) (n m : ℕ) (x : A) → n < m
    → slice_get (slice_set xs n x) m ≡ slice_get xs m
get_behind_set [] n m x below = refl
get_behind_set (y ∷ ys) zero zero x below = absurd (omega (arith, below))
get_behind_set (y ∷ ys) zero (suc m) x below = refl
get_behind_set (y ∷ ys) (suc n) zero x below = absurd (omega (arith, below))
get_behind_set (y ∷ ys) (suc n) (suc m) x below = get_behind_set ys n m x (omega (arith, below))

-- rules that are left open are evaluated beside what the settings of a test need
pub open_in : {M W T : Type 0} (tests : List (QueryContext M)) (query : QueryContext M) (writes : T → W → Bool)
    (are_distinct : Bool) (used : List Bool) (known : List (Option Bool)) (shows : ℕ → W → Bool → Type 0) (first : ℕ)
    (rules : List (EvaluatedRule M W)) → used ≡ map (is_used tests) rules
    → ((n : ℕ) (rule : EvaluatedRule M W) → slice_get rules n ≡ Some rule → IsHidden (shows n rule.writes)
    → IsTrue are_distinct → IsEvaluated writes query rules n → ⊥)
    → (number : ℕ) → IsOpenAt query used known shows first rules number
    → IsOpenIn tests query writes are_distinct known first rules number
open_in tests query writes are_distinct used known shows first rules are unneeded number one = record {
  place = one.place;
  numbered = one.numbered;
  rule = one.rule;
  stands = one.stands;
  asked = one.is_open.asked;
  unmatched = sym (mark_of tests rules one.place one.rule used are one.stands) ∙ one.is_open.unmarked;
  undecided = one.is_open.unknown;
  unneeded = unneeded one.place one.rule one.stands one.is_open.hidden;
}

pub rising_more : (P Q : ℕ → Type 0) (least : ℕ) (ns : List ℕ) → ((n : ℕ) → P n → Q n) → Rising P least ns → Rising Q least ns
rising_more P Q least [] more rises = tt
rising_more P Q least (n ∷ ns) more rises = (rises.0, more n rises.1, rising_more P Q (n + 1) ns more rises.2)

-- rules of numbers of which more holds are evaluated
pub only_more : (P Q : ℕ → Type 0) (first : ℕ) (old new : List ℕ) → ((n : ℕ) → P n → Q n) → EvaluatesOnly P first old new
    → EvaluatesOnly Q first old new
only_more P Q first old new more only = (only.0, only.1, rising_more P Q first only.0 more only.2)

-- rules are evaluated, and then others
pub evaluated_both : (P P' Q Q' : ℕ → Type 0) (first second : ℕ) (old now new : List ℕ)
    → ((n : ℕ) → P n → P' n) → ((n : ℕ) → Q n → Q' n) → EvaluatesOnly P first old now → EvaluatesOnly Q second now new
    → (some : List ℕ) × (others : List ℕ) × (new ≡ old ++ (some ++ others)) × Rising P' first some × Rising Q' second others
evaluated_both P P' Q Q' first second old now new more_some more_others some others = (
  some.0,
  others.0,
  others.1 ∙ ap (λ ns. ns ++ others.0) some.1 ∙ append_assoc old some.0 others.0,
  rising_more P P' first some.0 more_some some.2,
  rising_more Q Q' second others.0 more_others others.2,
)
