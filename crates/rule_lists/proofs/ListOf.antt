-- The numbers of the rules that pass a test are their rising list.
use Rattle.std.proofs.Common.{◌≡◌, ◌∙◌, ◌⊎◌, inl, inr, ℕ, zero, suc, ◌+◌, ◌<◌, ◌≤◌, Bool, true, false, Some, List, [], ◌∷◌, ◌++◌, length, refl, ap, sym, if◌then◌else◌, slice_get, slice_index_or, arith}
use Rattle.std.proofs.lemmas.List.Elements.{Contains-append_left, Contains-append_right, Contains-append_cases}
use Rattle.std.specs.List.{Contains}
use Rattle.rule_lists.specs.Lists.{StandsAt, Rises, IsListOf}

-- the numbers of the rules that pass a test, counted on from the first number
abbrev pub numbers_of : {R : Type 0} → (R → Bool) → ℕ → List R → List ℕ
numbers_of test first [] = []
numbers_of test first (r ∷ rules) =
    if test r then first ∷ numbers_of test (first + 1) rules else numbers_of test (first + 1) rules

looser : (a b : ℕ) (ns : List ℕ) → a ≤ b → Rises b ns → Rises a ns
looser a b [] le h = tt
looser a b (n ∷ ns) le h = (omega (arith, le, h.0), h.1)

alone : (m n : ℕ) → Contains (m ∷ []) n → n ≡ m
alone m n there = at there.0 there.1 there.2 where
  at : (k : ℕ) → k < length (m ∷ []) → slice_index_or (m ∷ []) k n ≡ n → n ≡ m
  at zero lt is = sym is
  at (suc k) lt is = absurd (omega (arith, lt))

module _ {R : Type 0} (test : R → Bool) where
  -- rule `first`, before those after it
  abbrev numbers : Bool → ℕ → List R → List ℕ
  numbers b first rules = if b then first ∷ numbers_of test (first + 1) rules else numbers_of test (first + 1) rules

  rises : (first : ℕ) (rules : List R) → Rises first (numbers_of test first rules)
  rises first [] = tt
  rises first (r ∷ rules) = go (test r) (rises (first + 1) rules) where
    go : (b : Bool) → Rises (first + 1) (numbers_of test (first + 1) rules) → Rises first (numbers b first rules)
    go true h = (omega arith, h)
    go false h = looser first (first + 1) (numbers_of test (first + 1) rules) (omega arith) h

  further : (first : ℕ) (r : R) (rules : List R) (n : ℕ) → StandsAt test (first + 1) rules n
      → StandsAt test first (r ∷ rules) n
  further first r rules n h = (suc h.0, h.1, omega (arith, h.2), h.3, h.4)

  inside : (first : ℕ) (rules : List R) (n : ℕ) → Contains (numbers_of test first rules) n → StandsAt test first rules n
  inside first [] n there = absurd (omega (arith, there.1))
  inside first (r ∷ rules) n there = go (test r) refl there (inside (first + 1) rules n) where
    here : test r ≡ true → n ≡ first → StandsAt test first (r ∷ rules) n
    here is same = (0, r, omega (arith, same), refl, is)

    go : (b : Bool) → test r ≡ b → Contains (numbers b first rules) n
        → (Contains (numbers_of test (first + 1) rules) n → StandsAt test (first + 1) rules n)
        → StandsAt test first (r ∷ rules) n
    go true is there later = elim (Contains-append_cases (first ∷ []) (numbers_of test (first + 1) rules) n there) [
      | inl one ↦ here is (alone first n one)
      | inr more ↦ further first r rules n (later more)
    ]
    go false is there later = further first r rules n (later there)

  outside : (first : ℕ) (rules : List R) (k : ℕ) (r : R) (n : ℕ) → n ≡ first + k → slice_get rules k ≡ Some r
      → test r ≡ true → Contains (numbers_of test first rules) n
  outside first [] k r n is at passes = absurd cc
  outside first (q ∷ rules) zero r n is at passes =
      let same : q ≡ r = cc in
      let now : test q ≡ true = ap test same ∙ passes in
      let eq : first ≡ n = omega (arith, is) in
      rw now (Contains-append_left (first ∷ []) (numbers_of test (first + 1) rules) n (0, omega arith, eq))
  outside first (q ∷ rules) (suc k) r n is at passes =
      go (test q) (outside (first + 1) rules k r n (omega (arith, is)) at passes) where
        go : (b : Bool) → Contains (numbers_of test (first + 1) rules) n → Contains (numbers b first rules) n
        go true h = Contains-append_right (first ∷ []) (numbers_of test (first + 1) rules) n h
        go false h = h

  pub list-of : (first : ℕ) (rules : List R) → IsListOf test first rules (numbers_of test first rules)
  list-of first rules = record {
    rising = rises first rules;
    exact = λ n. (inside first rules n, λ h. outside first rules h.0 h.1 n h.2 h.3 h.4);
  }
