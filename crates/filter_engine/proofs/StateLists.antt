-- Lists of states.
use Rattle.std.proofs.Common.{◌≡◌, ℕ, zero, suc, ◌+◌, ◌^◌, ◌<◌, ◌≤◌, Bool, true, false, cond, List, [], ◌∷◌, length, take, set, get_or, refl, sym, ◌∙◌, ⊎_elim, inl, inr, arith, length-set, get_or-set_same, get_or-set_other, true≢false}
use Rattle.std.specs.Prelude.{All, Contains}
use Rattle.std.proofs.lemmas.Bool.{cases_eq, cases_lt, false_from_ne_true}
use Rattle.std.proofs.lemmas.List.{take_more_set, length-take-le, get_or_past}
use Rattle.std.proofs.lemmas.List.Sums.{sum_by-le}
use Rattle.std.proofs.lemmas.List.Elements.{All-nil, All-push, All-from_get_or, Contains-append_left, Contains-push}
use Rattle.regex_vm.specs.Bits.{members}
use Rattle.regex_vm.proofs.SetLemmas.{member-set, no_member}
use Rattle.filter_engine.specs.StateLists.{IsListed, AddsState, without}

-- No state is listed where no flag is set.
pub none_listed : (room : ℕ) (flags : List Bool) (states : List ℕ) → room ≤ 2 ^ 16
    → All (λ b. b ≡ false) flags → length flags ≡ room → members flags ≡ 0 → length states ≡ room
    → IsListed room flags states 0
none_listed room flags states narrow none size count places = record {
  narrow = narrow;
  size = size;
  places = places;
  count = count;
  within = omega arith;
  below = All-nil (λ q. q < room);
  told = λ q told. absurd (no_member flags q none told);
}

-- How many states there are.
pub listed_len : (room : ℕ) (flags : List Bool) (states : List ℕ) (len : ℕ) → IsListed room flags states len
    → length (take len states) ≡ len
listed_len room flags states len listed = length-take-le len states (omega (arith, listed.within, listed.places))

-- A state that is put behind the others is listed.
pub listed_more : (room : ℕ) (flags after : List Bool) (states : List ℕ) (len q : ℕ) → IsListed room flags states len
    → q < room → after ≡ set flags q true
    → members after ≡ members flags + 1 → members after ≤ length flags
    → IsListed room after (set states len q) (len + 1)
listed_more room flags after states len q listed small is count within =
    let more = take_more_set states len q (omega (arith, listed.size, listed.places, listed.count)) in
    record {
      narrow = listed.narrow;
      size = rw (is, length-set flags q true) listed.size;
      places = rw (length-set states len q) listed.places;
      count = omega (arith, listed.count);
      within = omega (arith, listed.size, listed.count);
      below = rw more (All-push (λ r. r < room) (take len states) q listed.below small);
      told = λ r told.
          rw more
          (⊎_elim
          (λ old. Contains-append_left (take len states) (q ∷ []) r (listed.told r old))
          (λ (same : r ≡ q). rw same (Contains-push (take len states) q))
          (member-set flags q r (rw is at told)));
    }

-- A state that is put behind the others is added.
pub adds_behind : (states old : List ℕ) (len q : ℕ) → len < length states → take len states ≡ old
    → AddsState q old (take (len + 1) (set states len q))
adds_behind states old len q room is =
    rw (take_more_set states len q room, is) (record { there = Contains-push old q; after = inr refl })

-- A state that is there is added by doing nothing.
pub adds_nothing : (room : ℕ) (flags : List Bool) (states old : List ℕ) (len q : ℕ) → IsListed room flags states len
    → take len states ≡ old
    → get_or flags q false ≡ true → AddsState q old old
adds_nothing room flags states old len q listed is told =
    record { there = rw (← is) (listed.told q told); after = inl refl }

-- Flags of which none is set count none.
pub no_members : (flags : List Bool) → All (λ b. b ≡ false) flags → members flags ≡ 0
unfolding members
no_members flags none =
    omega (arith, sum_by-le (λ b. cond b 1 0) 0 flags (λ k d h. rw (none k d h) (omega arith)))

pub length-without : (flags : List Bool) (states : List ℕ) → length (without flags states) ≡ length flags
length-without flags [] = refl
length-without flags (q ∷ states) = length-without (set flags q false) states ∙ length-set flags q false

-- A flag that is left after another was taken is not that one, and was there before.
still_set : (flags : List Bool) (q r : ℕ) → get_or (set flags q false) r false ≡ true
    → (q ≡ r → ⊥) × (get_or flags r false ≡ true)
still_set flags q r told =
    elim (cases_eq r q) [
      | inl same ↦ absurd (true≢false (sym told ∙ rw same (taken flags q)))
      | inr other ↦ (λ same. other (sym same), sym (get_or-set_other flags q r false false other) ∙ told)
    ]
  where
    taken : (flags : List Bool) (q : ℕ) → get_or (set flags q false) q false ≡ false
    taken flags q =
        elim (cases_lt q (length flags)) [
          | inl within ↦ get_or-set_same flags q false false within
          | inr past ↦ get_or_past _ q false (omega (arith, length-set flags q false))
        ]

among_others : (q r : ℕ) (states : List ℕ) (k : ℕ) → k < length (q ∷ states) → get_or (q ∷ states) k r ≡ r
    → (q ≡ r → ⊥) → Contains states r
among_others q r states zero within is other = absurd (other is)
among_others q r states (suc k) within is other = (k, omega arith, is)

none_told : (flags : List Bool) (states : List ℕ) → ((q : ℕ) → get_or flags q false ≡ true → Contains states q)
    → (q : ℕ) → get_or (without flags states) q false ≡ false
none_told flags [] told q = false_from_ne_true _ (λ set'. let w = told q set' in omega (arith, w.1))
none_told flags (s ∷ states) told q =
    none_told (set flags s false) states
    (λ r set'.
    let still = still_set flags s r set' in
    let w = told r still.1 in
    among_others s r states w.0 w.1 w.2 still.0)
    q

-- Where each state that is reported is among some, none is reported without these.
pub none_left : (flags : List Bool) (states : List ℕ)
    → ((q : ℕ) → get_or flags q false ≡ true → Contains states q)
    → All (λ b. b ≡ false) (without flags states)
none_left flags states told =
    All-from_get_or (λ b. b ≡ false) (without flags states) false
    (λ q within. none_told flags states told q)

-- A list that is cleared lists none.
pub cleared : (room : ℕ) (flags : List Bool) (states : List ℕ) (len : ℕ) → IsListed room flags states len
    → IsListed room (without flags (take len states)) states 0
cleared room flags states len listed =
    let none = none_left flags (take len states) listed.told in
    none_listed room (without flags (take len states)) states listed.narrow none
    (length-without flags (take len states) ∙ listed.size) (no_members _ none) listed.places
