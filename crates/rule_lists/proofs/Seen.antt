use Rattle.std.proofs.Common.{◌≡◌, ℕ, ◌+◌, Bool, true, false, Option, Some, None, is_none, option_map, List, [], ◌∷◌, ◌++◌, map, find, cond, refl, ap, sym, ◌∙◌, ◌&&◌}
use Rattle.std.proofs.lemmas.List.{map-append}
use Rattle.rule_lists.specs.Lists.{first_of, firsts, is_wanted, asked_from}

is_none-option_map : {A B : Type 0} (f : A → B) (o : Option A) → is_none (option_map f o) ≡ is_none o
is_none-option_map f None = refl
is_none-option_map f (Some x) = refl

-- the first element that passes, as a function of the elements shows it
pub find-seen : {A B : Type 0} (f : A → B) (p : A → Bool) (q : B → Bool) → ((x : A) → p x ≡ q (f x))
    → (xs : List A) → option_map f (find p xs) ≡ find q (map f xs)
find-seen f p q same [] = refl
find-seen f p q same (x ∷ xs) =
    rw (← same x) (elim (p x) as
    (λ b. option_map f (cond b (Some x) (find p xs)) ≡ cond b (Some (f x)) (find q (map f xs)))
    [ true ↦ refl | false ↦ find-seen f p q same xs ])

-- rules as f shows them
module _ {A B : Type 0} (f : A → B) (asks met : B → Bool) where
  abbrev through : List (B → Bool) → List (A → Bool)
  through tests = map (λ test. (λ x. test (f x))) tests

  pub first-seen : (test : B → Bool) (rules : List A)
      → option_map f (first_of (λ x. met (f x)) (λ x. test (f x)) rules) ≡ first_of met test (map f rules)
  first-seen test rules = find-seen f (λ x. test (f x) && met (f x)) (λ y. test y && met y) (λ x. refl) rules

  pub firsts-seen : (tests : List (B → Bool)) (rules : List A)
      → map (option_map f) (firsts (λ x. met (f x)) (through tests) rules) ≡ firsts met tests (map f rules)
  firsts-seen [] rules = refl
  firsts-seen (t ∷ tests) rules = rw (first-seen t rules, firsts-seen tests rules) refl

  wanted-seen : (tests : List (B → Bool)) (before : List A) (x : A)
      → is_wanted (λ y. met (f y)) (through tests) before x ≡ is_wanted met tests (map f before) (f x)
  wanted-seen [] before x = refl
  wanted-seen (t ∷ tests) before x =
      let same : is_none (first_of (λ y. met (f y)) (λ y. t (f y)) before) ≡ is_none (first_of met t (map f before)) =
      sym (is_none-option_map f (first_of (λ y. met (f y)) (λ y. t (f y)) before)) ∙ ap is_none (first-seen t before) in
      rw (same, wanted-seen tests before x) refl

  pub asked-seen : (tests : List (B → Bool)) (n : ℕ) (before rest : List A)
      → asked_from (λ x. asks (f x)) (λ x. met (f x)) (through tests) n before rest
      ≡ asked_from asks met tests n (map f before) (map f rest)
  asked-seen tests n before [] = refl
  asked-seen tests n before (x ∷ rest) =
      rw (
        wanted-seen tests before x,
        asked-seen tests (n + 1) (before ++ x ∷ []) rest,
        map-append f before
            (x ∷ []),
      ) refl
