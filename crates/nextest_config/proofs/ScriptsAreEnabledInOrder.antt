-- More tests enable more scripts, and all of them in the order of the configuration.
use Rattle.std.proofs.Common.{◌≡◌, inl, inr, ◌∙◌, List, [], ◌∷◌, map, Bool, true, false, cond, filter, Contains, arith, refl, ap}
use Rattle.std.specs.List.{list_any}
use Rattle.std.proofs.lemmas.Bool.{or_cases, or_left, or_right}
use Rattle.std.proofs.lemmas.List.Elements.{Contains-append_left, Contains-append_right, Contains-append_cases, Contains-push, Contains-push_cases}
use Rattle.nextest_engines.specs.Engines.{Test}
use Rattle.nextest_engines.specs.Readings.{Readings}
use Rattle.nextest_settings.specs.Deciding.{QueryContext}
use Rattle.nextest_settings.specs.Profile.{EvaluatableModel}
use Rattle.nextest_settings.specs.Queries.{query_in, is_enabled_for}
use Rattle.nextest_tables.specs.Written.{Name}
use Rattle.nextest_config.specs.Laws.{IsSublist, ScriptsAreEnabledInOrder}

module _ {X : Type 0} where
  kept_at : (b : Bool) (x : X) (ys xs : List X) → IsSublist ys xs → IsSublist (cond b (x ∷ ys) ys) (x ∷ xs)
  kept_at true x ys xs h = inr (ys, refl, h)
  kept_at false x ys xs h = inl h

  -- what passes a test is a part of all
  pub passing_part : (passes : X → Bool) (xs : List X) → IsSublist (filter passes xs) xs
  passing_part passes [] = refl
  passing_part passes (x ∷ xs) = kept_at (passes x) x (filter passes xs) xs (passing_part passes xs)

  both_at : (b c : Bool) (x : X) (ys zs : List X) → (b ≡ true → c ≡ true) → IsSublist ys zs
      → IsSublist (cond b (x ∷ ys) ys) (cond c (x ∷ zs) zs)
  both_at true true x ys zs f h = inr (ys, refl, h)
  both_at true false x ys zs f h = let bad : false ≡ true = f refl in absurd cc
  both_at false true x ys zs f h = inl h
  both_at false false x ys zs f h = h

  -- where more passes, the part is a part of the larger one
  pub more_passing : (passes more : X → Bool) → ((x : X) → passes x ≡ true → more x ≡ true) → (xs : List X)
      → IsSublist (filter passes xs) (filter more xs)
  more_passing passes more f [] = refl
  more_passing passes more f (x ∷ xs) =
      both_at (passes x) (more x) x (filter passes xs) (filter more xs) (f x) (more_passing passes more f xs)

module _ {X Y : Type 0} (passes : Y → Bool) (f : X → Y) where
  found_in : (xs : List X) → list_any passes (map f xs) ≡ true → (x : X) × Contains xs x × (passes (f x) ≡ true)
  found_in [] h = absurd cc
  found_in (x ∷ xs) h = elim (or_cases (passes (f x)) (list_any passes (map f xs)) h) [
    | inl first ↦ (x, Contains-append_left (x ∷ []) xs x (Contains-push [] x), first)
    | inr later ↦ let r = found_in xs later in (r.0, Contains-append_right (x ∷ []) xs r.0 r.1, r.2)
  ]

  any_with : (xs : List X) (x : X) → Contains xs x → passes (f x) ≡ true → list_any passes (map f xs) ≡ true
  any_with [] x h is = absurd (omega (arith, h.1))
  any_with (y ∷ xs) x h is = elim (Contains-append_cases (y ∷ []) xs x h) [
    | inl first ↦ elim (Contains-push_cases [] y x first) [
      | inl none ↦ absurd (omega (arith, none.1))
      | inr same ↦ or_left (passes (f y)) (list_any passes (map f xs)) (ap (λ z. passes (f z)) same ∙ is)
    ]
    | inr later ↦ or_right (passes (f y)) (list_any passes (map f xs)) (any_with xs x later is)
  ]

  -- what some of these pass, some of more pass
  pub some_of_more : (xs more : List X) → ((x : X) → Contains xs x → Contains more x)
      → list_any passes (map f xs) ≡ true → list_any passes (map f more) ≡ true
  some_of_more xs more all h = let r = found_in xs h in any_with more r.0 (all r.0 r.1) r.2

pub in_order : {M K P : Type 0} (engines : Readings M K P) (p : EvaluatableModel M) → ScriptsAreEnabledInOrder engines p
in_order {M = M} engines p =
    let asks : Name → QueryContext M → Bool = λ id query. is_enabled_for query p.script_rules id in
    let query : Test → QueryContext M = query_in engines.matches_test p in
    record {
      some_of_all = λ tests. passing_part (λ e. list_any (asks e.0) (map query tests)) p.facts.scripts.setup;
      at_least_the_same = λ tests more all. more_passing (λ e. list_any (asks e.0) (map query tests))
          (λ e. list_any (asks e.0) (map query more))
          (λ e h. some_of_more (asks e.0) query tests more all h) p.facts.scripts.setup;
    }
