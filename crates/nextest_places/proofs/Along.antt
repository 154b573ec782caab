-- The walk of a path along the branches of its keys, a step at a time, as the code takes it.
use Rattle.std.proofs.Common.{◌≡◌, ℕ, suc, ◌+◌, ◌-◌, ◌<◌, ◌≤◌, true, false, List, [], ◌∷◌, ◌++◌, Bor, length, get_or, drop, take, Option, Some, None, sym, ap, ◌∙◌, subst, arith, add-one}
use Rattle.std.proofs.lemmas.List.{drop_all, drop_more, length-drop, take_more}
use Rattle.std.specs.BTreeMap.{get_by_text}
use Rattle.nextest_places.specs.Branches.{HasNumber, comes_before, earlier}
use Rattle.nextest_places.specs.Entries.{scan, waits}
use Rattle.nextest_places.specs.Marks.{fresh}
use Rattle.nextest_places.specs.declared.branch.Branch.{Branch, out-Branch}
use Rattle.nextest_places.specs.declared.entry.Entry.{Entry}
use Rattle.nextest_places.specs.declared.step.Step.{Step}
use Rattle.nextest_places.specs.declared.step.Step.TheVariants.{Key, Position}
use Rattle.nextest_places.proofs.Branched.{IsFrom, IsPassed, at_end, element_entered, element_last, element_within, longer_at, no_element, no_longer, pair_first}

-- the number of the entry that defines the value at a path
abbrev pub IsItsNumber : List Entry → List Step → Option ℕ → Type 0
IsItsNumber entries path number = HasNumber entries (scan entries (waits (fresh path))) number

some_left : (path : List Step) (n : ℕ) → n < length path → drop n path ≡ [] → ⊥
some_left path n more none =
    let size : length (drop n path) ≡ length path - n = length-drop n path in
    let empty : length (drop n path) ≡ 0 = ap length none in
    omega (arith, more, size, empty)

-- the path's end
pub all_passed : (entries : List Entry) (path : List Step) (i : ℕ) (branch : Branch) (from : ℕ) (pair any : Option ℕ)
    → length path ≤ i → IsPassed entries path (take i path) (drop i path) branch from pair
    → IsFrom (out-Branch branch).all.items from 0 any → IsItsNumber entries path (earlier any pair)
all_passed entries path i branch from pair any over now is =
    let ended : IsPassed entries path (take i path) [] branch from pair =
    subst (λ rest. IsPassed entries path (take i path) rest branch from pair) (drop_all i path over) now in
    at_end entries path (take i path) branch from pair ended any is

module _ (entries : List Entry) (path : List Step) (i : ℕ) (d : Step) (branch : Branch) (from : ℕ) (pair : Option ℕ)
    (within : i < length path) (now : IsPassed entries path (take i path) (drop i path) branch from pair) where
  here : (step : Step) → get_or path i d ≡ step
      → IsPassed entries path (take i path) (step ∷ drop (i + 1) path) branch from pair
  here step is =
      subst (λ rest. IsPassed entries path (take i path) rest branch from pair)
      (drop_more path i d within ∙ ap (λ s. s ∷ drop (i + 1) path) is) now

  behind : (step : Step) (next : Branch) (low : ℕ) (first : Option ℕ) → get_or path i d ≡ step
      → IsPassed entries path (take i path ++ step ∷ []) (drop (i + 1) path) next low first
      → IsPassed entries path (take (i + 1) path) (drop (i + 1) path) next low first
  behind step next low first is passed =
      subst (λ steps. IsPassed entries path steps (drop (i + 1) path) next low first)
      (sym (take_more path i d within ∙ ap (λ s. take i path ++ s ∷ []) is)) passed

  pub key_missing : (k : Bor (List ℕ)) → get_or path i d ≡ Key k
      → get_by_text (out-Branch branch).longer k.now ≡ None → IsItsNumber entries path pair
  key_missing k is none =
      no_longer entries path (take i path) branch from pair k (drop (i + 1) path) (here (Key k) is) none

  pub key_there : (k : Bor (List ℕ)) (next : Branch) (more : Option ℕ) → get_or path i d ≡ Key k
      → get_by_text (out-Branch branch).longer k.now ≡ Some next → IsFrom (out-Branch next).ends.pairs.items from 0 more
      → IsPassed entries path (take (i + 1) path) (drop (i + 1) path) next from (earlier more pair)
  key_there k next more is some from_next =
      behind (Key k) next from (earlier more pair) is
      (longer_at entries path (take i path) branch from pair k (drop (i + 1) path) (here (Key k) is) next some more
      from_next)

  pub element_missing : (j : ℕ) (number : Option ℕ) → get_or path i d ≡ Position j
      → IsFrom (out-Branch branch).ends.elements.items from j number → number ≡ None → IsItsNumber entries path pair
  element_missing j number is from_here none =
      no_element entries path (take i path) branch from pair j (drop (i + 1) path) (here (Position j) is)
      (subst (IsFrom (out-Branch branch).ends.elements.items from j) none from_here)

  module _ (j : ℕ) (number : Option ℕ) (n : ℕ) (is : get_or path i d ≡ Position j)
      (from_here : IsFrom (out-Branch branch).ends.elements.items from j number) (some : number ≡ Some n) where
    there : IsFrom (out-Branch branch).ends.elements.items from j (Some n)
    there = subst (IsFrom (out-Branch branch).ends.elements.items from j) some from_here

    pub pair_there : comes_before pair n ≡ true → IsItsNumber entries path pair
    pair_there first =
        pair_first entries path (take i path) branch from pair j (drop (i + 1) path) (here (Position j) is) n there first

    pub header_there : comes_before pair n ≡ false → i + 1 ≡ length path → IsItsNumber entries path (Some n)
    header_there first last =
        element_last entries path (take i path) branch from pair j (drop (i + 1) path) (here (Position j) is) n there
        first (drop_all (i + 1) path (omega (arith, last)))

    pub header_passed : comes_before pair n ≡ false → (i + 1 ≡ length path → ⊥)
        → IsPassed entries path (take (i + 1) path) (drop (i + 1) path) branch (n + 1) pair
    header_passed first more =
        let left : i + 1 < length path = omega (arith, within, more) in
        let next : suc n ≡ n + 1 = sym (add-one n) in
        subst (λ low. IsPassed entries path (take (i + 1) path) (drop (i + 1) path) branch low pair) next
        (behind (Position j) branch (suc n) pair is
        (element_entered entries path (take i path) branch from pair j (drop (i + 1) path) (here (Position j) is) n
        there first (some_left path (i + 1) left)))

    pub header_within : comes_before pair n ≡ false → n < length entries
    header_within first =
        element_within entries path (take i path) branch from pair j (drop (i + 1) path) (here (Position j) is) n there
        first
