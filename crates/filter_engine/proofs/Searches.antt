-- A search over a name, position by position.
use Rattle.std.proofs.Common.{◌≡◌, ℕ, ◌+◌, ◌<◌, ◌⊎◌, ◌↔◌, Bool, true, false, List, [], length, Option, Some, None, is_some, refl, sym, ap, ⊎_elim, inl, inr, arith, true≢false}
use Rattle.std.specs.Coded.{coded_bool}
use Rattle.std.proofs.lemmas.Bool.{cases_eq}
use mathlib.Core.Logic.{∥∥₁_elim, ∥∥₁_map}
use native.Mathlib.Bridge.{le_prop}
use denote.Struct.Props.{≡_prop}
use Rattle.regex_hir.specs.Find.{Match, find}
use Rattle.regex_hir.specs.Re.{Re}
use Rattle.regex_hir.proofs.FindLemmas.{IsFirst-of_first_between, none_of_first_between, first_between_cong}
use Rattle.regex_nfa.specs.declared.nfa.Nfa.{Nfa}
use Rattle.regex_nfa.proofs.PathsLemmas.{Accepts-of_run, no_path_of_run_none}
use Rattle.regex_compile.specs.Implements.{Implements}
use Rattle.regex_vm.specs.Found.{first_match}
use Rattle.filter_engine.specs.StateLists.{HasSame}
use Rattle.filter_engine.specs.Runs.{finds, AreStates, Succeeds, SomeSucceeds, Steps, StartsFrom, IsSearched}

-- What an automaton finds is what its pattern finds.
pub finds_pattern : (nfa : Nfa) (re : Re) → Implements nfa re → (name : List ℕ)
    → finds nfa name ≡ is_some (find re name 0)
unfolding finds find
finds_pattern nfa re same name = ap is_some (first_between_cong _ _ 0 (length name) (λ i _ _. same name i))

-- What is not true is false.
pub is_false : (b : Bool) → (b ≡ true → ⊥) → b ≡ false
is_false true never = absurd (never refl)
is_false false never = refl

module _ (nfa : Nfa) (name : List ℕ) where
  starts_at : (found : Option Match) → first_match nfa name (length name) 0 (length name) ≡ found
      → is_some found ≡ true → StartsFrom nfa name 0
  starts_at None e h = absurd (true≢false (sym h))
  starts_at (Some m) e h =
      let first = IsFirst-of_first_between _ 0 (length name) m e in (
        m.start,
        first.from,
        (
          first.to,
          (m.trace.end, Accepts-of_run nfa name (length name) nfa.start m.start m.trace first.here),
        ),
      )

  found_from : (found : Option Match) → first_match nfa name (length name) 0 (length name) ≡ found
      → StartsFrom nfa name 0 → is_some found ≡ true
  found_from None e (s, from, succeeds) =
      absurd (no_path_of_run_none nfa name (length name) succeeds.1.0 nfa.start s
      (none_of_first_between _ 0 (length name) e s from succeeds.0) succeeds.1.1)
  found_from (Some m) e h = refl

  -- What is found starts at some position.
  pub finds_start : (finds nfa name ≡ true) ↔ StartsFrom nfa name 0
  unfolding finds
  finds_start = (starts_at _ refl, found_from _ refl)

  -- At first all is left.
  pub nothing_searched : (states : List ℕ) → states ≡ [] → IsSearched nfa name 0 states
  nothing_searched states none =
      rw none
      (record {
        within = λ q there. absurd (omega (arith, there.1));
        left = (
          λ found. inr (finds_start.0 found),
          ⊎_elim (λ (some : SomeSucceeds nfa name 0 []). absurd (omega (arith, some.1.1))) finds_start.1,
        );
      })

  -- What starts from here on starts here or further on.
  splits : (at : ℕ) → StartsFrom nfa name at → Succeeds nfa name at nfa.start ⊎ StartsFrom nfa name (at + 1)
  splits at (s, from, succeeds) =
      ⊎_elim
      (λ (same : s ≡ at). inl (rw same at succeeds))
      (λ (other : s ≡ at → ⊥). inr (s, omega arith, succeeds))
      (cases_eq s at)

  -- A step that finds a match.
  pub found_at : (at : ℕ) (states next : List ℕ) → IsSearched nfa name at states → Steps nfa name at states next true
      → finds nfa name ≡ true
  found_at at states next before begins =
      before.left.1 (⊎_elim (λ some. inl some) (λ start. inr (at, omega arith, start)) begins)

  -- A step that finds none.
  pub searched_more : (at : ℕ) (states next : List ℕ) → IsSearched nfa name at states → AreStates nfa next
      → Steps nfa name at states next false
      → IsSearched nfa name (at + 1) next
  searched_more at states next before within steps = record {
    within = within;
    left = (
      λ found.
          ⊎_elim
          (λ some. inl (steps.0 (inl some)))
          (λ from. ⊎_elim (λ start. inl (steps.0 (inr start))) (λ later. inr later) (splits at from))
          (before.left.0 found),
      λ left.
          before.left.1
          (⊎_elim
          (λ some. ⊎_elim (λ old. inl old) (λ start. inr (at, omega arith, start)) (steps.1 some))
          (λ (later : StartsFrom nfa name (at + 1)). inr (later.0, omega (arith, later.1), later.2))
          left),
    );
  }

  -- Behind the end of the name nothing is left.
  pub nothing_left : (at : ℕ) (states : List ℕ) → length name < at → IsSearched nfa name at states → finds nfa name ≡ false
  nothing_left at states past before =
      is_false _
      (λ found.
      ⊎_elim
      (λ (some : SomeSucceeds nfa name at states). omega (arith, some.2.0))
      (λ (later : StartsFrom nfa name at). omega (arith, later.1, later.2.0))
      (before.left.0 found))

-- What is searched with some states is with the same ones in another order.
pub searched_same : (nfa : Nfa) (name : List ℕ) (at : ℕ) (states other : List ℕ) → HasSame states other
    → IsSearched nfa name at states → IsSearched nfa name at other
searched_same nfa name at states other same searched = record {
  within = λ q there. searched.within q ((same q).0 there);
  left = (
    λ found.
        ⊎_elim (λ (some : SomeSucceeds nfa name at states). inl (some.0, (same some.0).1 some.1, some.2))
        (λ later. inr later) (searched.left.0 found),
    λ left.
        searched.left.1
        (⊎_elim (λ (some : SomeSucceeds nfa name at other). inl (some.0, (same some.0).0 some.1, some.2))
        (λ later. inr later) left),
  );
}

-- States in which a search is are states.
pub searched_within : (nfa : Nfa) (name : List ℕ) (at : ℕ) (states : List ℕ) → ∥ IsSearched nfa name at states ∥₁
    → AreStates nfa states
searched_within nfa name at states searched q there = ∥∥₁_elim searched le_prop (λ is. is.within q there)

-- What is found where a search has come so far.
pub found_then : (nfa : Nfa) (name : List ℕ) (at : ℕ) (states next : List ℕ) → ∥ IsSearched nfa name at states ∥₁
    → Steps nfa name at states next true → finds nfa name ≡ true
found_then nfa name at states next searched steps =
    ∥∥₁_elim searched (≡_prop coded_bool _ _) (λ is. found_at nfa name at states next is steps)

pub nothing_then : (nfa : Nfa) (name : List ℕ) (at : ℕ) (states : List ℕ) → length name < at
    → ∥ IsSearched nfa name at states ∥₁ → finds nfa name ≡ false
nothing_then nfa name at states past searched =
    ∥∥₁_elim searched (≡_prop coded_bool _ _) (λ is. nothing_left nfa name at states past is)

pub searched_then : (nfa : Nfa) (name : List ℕ) (at : ℕ) (states next : List ℕ) → ∥ IsSearched nfa name at states ∥₁
    → AreStates nfa next → Steps nfa name at states next false → ∥ IsSearched nfa name (at + 1) next ∥₁
searched_then nfa name at states next searched within steps =
    ∥∥₁_map searched (λ is. searched_more nfa name at states next is within steps)

pub begun : (nfa : Nfa) (name : List ℕ) (at : ℕ) (states other : List ℕ) → HasSame states other
    → ∥ IsSearched nfa name at states ∥₁ → ∥ IsSearched nfa name at other ∥₁
begun nfa name at states other same searched =
    ∥∥₁_map searched (λ is. searched_same nfa name at states other same is)
