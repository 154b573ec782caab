-- Marks at the members whose names pass a test, and the names of marked members.
use Rattle.std.proofs.Common.{◌≡◌, ℕ, zero, suc, ◌+◌, ◌<◌, ◌≤◌, ◌↔◌, ◌⊎◌, inl, inr, Bool, true, false, cond, IsTrue, List, [], ◌∷◌, length, get_or, set, replicate, Contains, All, Some, refl, sym, ap, ◌∙◌, subst, arith, below_more, true≢false, get_or-set_same}
use Rattle.std.proofs.lemmas.List.{get_or_default}
use Rattle.std.proofs.lemmas.List.Elements.{All-contains}
use Rattle.std.proofs.lemmas.Option.{get_or_from_slice_get, slice_get-get_or}
use Rattle.std.proofs.lemmas.Slice.Eq.{bytes_eq-Decides}
use Rattle.std.specs.Str.{bytes_eq}
use Rattle.filter_inputs.specs.Packages.Graph.{Graph, IsMemberNamed, IsMatched}
use Rattle.filter_inputs.specs.Packages.Marks.{IsMarked}

-- ---- marks

unmarked_start : (n p : ℕ) → IsMarked (replicate n false) p → ⊥
unmarked_start zero p m = true≢false (sym m)
unmarked_start (suc n) zero m = true≢false (sym m)
unmarked_start (suc n) (suc p) m = unmarked_start n p m

-- a mark after a write is the one that was written, or was there before
marked_written : (marks : List Bool) (i p : ℕ) (b : Bool) → IsMarked (set marks i b) p
    → IsMarked marks p ⊎ ((p ≡ i) × (b ≡ true))
marked_written [] i p b m = inl m
marked_written (x ∷ marks) zero zero b m = inr (refl, m)
marked_written (x ∷ marks) zero (suc p) b m = inl m
marked_written (x ∷ marks) (suc i) zero b m = inl m
marked_written (x ∷ marks) (suc i) (suc p) b m =
    elim (marked_written marks i p b m) [ inl was ↦ inl was | inr (e, t) ↦ inr (ap suc e, t) ]

marked_still : (marks : List Bool) (i p : ℕ) (b : Bool) → (p ≡ i → b ≡ true) → IsMarked marks p
    → IsMarked (set marks i b) p
marked_still [] i p b t m = m
marked_still (x ∷ marks) zero zero b t m = t refl
marked_still (x ∷ marks) zero (suc p) b t m = m
marked_still (x ∷ marks) (suc i) zero b t m = m
marked_still (x ∷ marks) (suc i) (suc p) b t m = marked_still marks i p b (λ e. t (ap suc e)) m

-- the marks after the first members
pub record MarksPassed (members : List ℕ) (test : ℕ → Bool) (marks : List Bool) (n : ℕ) : Type 0 where
  pub sound : (p : ℕ) → IsMarked marks p → Contains members p × (test p ≡ true)
  pub complete : (k : ℕ) → k < n → (d : ℕ) → test (get_or members k d) ≡ true → IsMarked marks (get_or members k d)

pub passed_start : (members : List ℕ) (test : ℕ → Bool) (marks : List Bool) (n : ℕ)
    → marks ≡ replicate n false → MarksPassed members test marks 0
passed_start members test marks n is = record {
  sound = λ p m. absurd (unmarked_start n p (subst (λ marks. IsMarked marks p) is m));
  complete = λ k h. absurd (omega arith);
}

pub passed_step : (members : List ℕ) (test : ℕ → Bool) (marks : List Bool) (n p : ℕ) (b : Bool)
    → n < length members → p ≡ get_or members n p → p < length marks → b ≡ test p
    → MarksPassed members test marks n → MarksPassed members test (set marks p b) (n + 1)
passed_step members test marks n p b within at inside is passed = record {
  sound = λ q m. elim (marked_written marks p q b m) [
    | inl was ↦ passed.sound q was
    | inr (e, t) ↦ ((n, within, get_or_default members n q p within ∙ sym at ∙ sym e), ap test e ∙ sym is ∙ t)
  ];
  complete = below_more (λ k. (d : ℕ) → test (get_or members k d) ≡ true
      → IsMarked (set marks p b) (get_or members k d)) n
      (λ k h d t. marked_still marks p (get_or members k d) b (λ e. is ∙ ap test (sym e) ∙ t) (passed.complete k h d t))
      (λ d t.
      let here : get_or members n d ≡ p = get_or_default members n d p within ∙ sym at in
      let written : b ≡ true = is ∙ ap test (sym here) ∙ t in
      subst (IsMarked (set marks p b)) (sym here) (get_or-set_same marks p b false inside ∙ written));
}

pub passed_all : (members : List ℕ) (test : ℕ → Bool) (marks : List Bool) (n p : ℕ) → length members ≤ n
    → MarksPassed members test marks n → IsMarked marks p ↔ (Contains members p × (test p ≡ true))
passed_all members test marks n p ended passed = (
  passed.sound p,
  λ ((k, within, is), t). subst (IsMarked marks) is
      (passed.complete k (omega arith) p (ap test is ∙ t)),
)

-- whether the name at a place is accepted
abbrev pub accepts_at : List (List ℕ) → (List ℕ → Bool) → ℕ → Bool
accepts_at names accepts place = accepts (get_or names place [])

pub matched_as_passed : (graph : Graph) (accepts : List ℕ → Bool) (p : ℕ)
    → All (λ place. place < length graph.names) graph.members
    → (Contains graph.members p × (accepts_at graph.names accepts p ≡ true)) ↔ IsMatched graph accepts p
matched_as_passed graph accepts p below = (
  (λ (member, t). (
    get_or graph.names p [],
    (
      member,
      slice_get-get_or graph.names p []
          (All-contains (λ place. place < length graph.names) graph.members p below member),
    ),
    t,
  )),
  (λ (name, named, t). (named.0, ap accepts (get_or_from_slice_get graph.names p name [] named.1) ∙ t)),
)

-- ---- names

-- the set after the first members
pub record NamesMarked (names : List (List ℕ)) (members : List ℕ) (marks : List Bool) (has : List ℕ → Bool)
    (n : ℕ) : Type 0 where
  pub sound : (name : List ℕ) → has name ≡ true
      → (p : ℕ) × Contains members p × (get_or names p [] ≡ name) × IsMarked marks p
  pub complete : (k : ℕ) → k < n → (d : ℕ) → IsMarked marks (get_or members k d)
      → has (get_or names (get_or members k d) []) ≡ true

pub named_start : (names : List (List ℕ)) (members : List ℕ) (marks : List Bool) (has : List ℕ → Bool)
    → ((name : List ℕ) → has name ≡ false) → NamesMarked names members marks has 0
named_start names members marks has none = record {
  sound = λ name h. absurd (true≢false (sym h ∙ none name));
  complete = λ k h. absurd (omega arith);
}

-- a member without a mark
pub named_skip : (names : List (List ℕ)) (members : List ℕ) (marks : List Bool) (has : List ℕ → Bool)
    (n p : ℕ) → n < length members → p ≡ get_or members n p → (IsMarked marks p → ⊥)
    → NamesMarked names members marks has n → NamesMarked names members marks has (n + 1)
named_skip names members marks has n p within at unmarked named = record {
  sound = named.sound;
  complete = below_more (λ k. (d : ℕ) → IsMarked marks (get_or members k d)
      → has (get_or names (get_or members k d) []) ≡ true) n
      named.complete
      (λ d m. absurd (unmarked (subst (IsMarked marks) (get_or_default members n d p within ∙ sym at) m)));
}

-- a member with one
pub named_add : (names : List (List ℕ)) (members : List ℕ) (marks : List Bool) (has more : List ℕ → Bool)
    (n p : ℕ) (bytes : List ℕ) → n < length members → p ≡ get_or members n p → IsMarked marks p
    → bytes ≡ get_or names p [] → ((name : List ℕ) → more name ≡ cond (bytes_eq bytes name) true (has name))
    → NamesMarked names members marks has n → NamesMarked names members marks more (n + 1)
named_add names members marks has more n p bytes within at marked is adds named = record {
  sound = λ name h. found name (bytes_eq bytes name) refl (sym (adds name) ∙ h);
  complete = below_more (λ k. (d : ℕ) → IsMarked marks (get_or members k d)
      → more (get_or names (get_or members k d) []) ≡ true) n
      (λ k h d m. adds _ ∙ kept (bytes_eq bytes _) (named.complete k h d m))
      (λ d m.
      let here : get_or names (get_or members n d) [] ≡ bytes =
      ap (λ q. get_or names q []) (get_or_default members n d p within ∙ sym at) ∙ sym is in
      adds _ ∙ ap (λ b. cond b true (has (get_or names (get_or members n d) [])))
      ((bytes_eq-Decides bytes _).1 (sym here)));
}
  where
    kept : (b : Bool) {c : Bool} → c ≡ true → cond b true c ≡ true
    kept true e = refl
    kept false e = e

    found : (name : List ℕ) (b : Bool) → bytes_eq bytes name ≡ b → cond b true (has name) ≡ true
        → (p : ℕ) × Contains members p × (get_or names p [] ≡ name) × IsMarked marks p
    found name true same h = (p, (n, within, sym at), sym is ∙ (bytes_eq-Decides bytes name).0 same, marked)
    found name false other h = named.sound name h

pub named_all : (graph : Graph) (marks : List Bool) (has : List ℕ → Bool) (n : ℕ) (name : List ℕ)
    → All (λ place. place < length graph.names) graph.members → length graph.members ≤ n
    → NamesMarked graph.names graph.members marks has n
    → IsTrue (has name) ↔ ((place : ℕ) × IsMemberNamed graph name place × IsMarked marks place)
named_all graph marks has n name below ended named = (
  (λ h.
      let found = named.sound name h in
      let inside = All-contains (λ place. place < length graph.names) graph.members found.0 below found.1 in
      (found.0, (found.1, slice_get-get_or graph.names found.0 [] inside ∙ ap Some found.2), found.3)),
  (λ (p, named_so, m).
      let k = named_so.0.0 in
      let at : get_or graph.members k p ≡ p = named_so.0.2 in
      let is : get_or graph.names (get_or graph.members k p) [] ≡ name =
      ap (λ q. get_or graph.names q []) at ∙ get_or_from_slice_get graph.names p name [] named_so.1 in
      ap has (sym is) ∙ named.complete k (omega (arith, named_so.0.1)) p (subst (IsMarked marks) (sym at) m)),
)
