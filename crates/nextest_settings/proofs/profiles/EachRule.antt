-- What holds of each rule of a configuration holds of those that are gathered along a chain.
use Rattle.std.proofs.Common.{◌≡◌, Bool, true, false, List, [], ◌∷◌, ◌++◌, map, Some, unwrap_or, option_map, cond, subst}
use Rattle.std.proofs.lemmas.Bool.{or_cases}
use Rattle.std.proofs.lemmas.Slice.Eq.{bytes_eq-Decides}
use Rattle.std.specs.List.{flat_map}
use Rattle.std.specs.Map.{lookup}
use Rattle.std.specs.Str.{bytes_eq}
use Rattle.std.proofs.Common.{inl, inr}
use Rattle.nextest_rules.specs.Rules.{LayerProfile, Layer}
use Rattle.nextest_settings.specs.Chains.{in_layer, in_order}
use Rattle.nextest_sources.specs.InputFaults.{Each}
use Rattle.nextest_tables.specs.Written.{Name}
use Rattle.nextest_tree.specs.Schema.{is_one_of}

joined : {X : Type 0} (P : X → Type 0) (xs ys : List X) → Each P xs → Each P ys → Each P (xs ++ ys)
joined P [] ys h k = k
joined P (x ∷ xs) ys h k = (h.0, joined P xs ys h.1 k)

-- a fact of each image, and of each element
pub each_image : {X Y : Type 0} (P : Y → Type 0) (f : X → Y) (xs : List X) → Each (λ x. P (f x)) xs → Each P (map f xs)
each_image P f [] h = tt
each_image P f (x ∷ xs) h = (h.0, each_image P f xs h.1)

pub each_before : {X Y : Type 0} (P : Y → Type 0) (f : X → Y) (xs : List X) → Each P (map f xs) → Each (λ x. P (f x)) xs
each_before P f [] h = tt
each_before P f (x ∷ xs) h = (h.0, each_before P f xs h.1)

-- a fact of each name holds of one of them
pub each_at : (P : Name → Type 0) (names : List Name) (name : Name) → is_one_of names name ≡ true
    → Each P names → P name
each_at P [] name is h = cc
each_at P (n ∷ names) name is h =
    elim (or_cases (bytes_eq n name) (is_one_of names name) is) [
      | inl same ↦ subst P ((bytes_eq-Decides n name).0 same) h.0
      | inr later ↦ each_at P names name later h.1
    ]

looked_up : {K Y X : Type 0} (P : X → Type 0) (f : Y → List X) (test : K → Bool) (es : List (K × Y))
    → Each (λ e. Each P (f e.1)) es → Each P (unwrap_or (option_map f (lookup test es)) [])
looked_up P f test [] h = tt
looked_up P f test (e ∷ es) h =
    elim (test e.0) as (λ b. Each P (unwrap_or (option_map f (cond b (Some e.1) (lookup test es))) []))
    [ true ↦ h.0 | false ↦ looked_up P f test es h.1 ]

module _ {M K X : Type 0} (P : X → Type 0) (f : LayerProfile M K → List X) where
  in_layers : (name : Name) (ls : List (Layer M K)) → Each (λ l. Each (λ p. Each P (f p.1)) l.profiles) ls
      → Each P (flat_map (in_layer f name) ls)
  in_layers name [] h = tt
  in_layers name (l ∷ ls) h =
      joined P (in_layer f name l) (flat_map (in_layer f name) ls) (looked_up P f _ l.profiles h.0)
      (in_layers name ls h.1)

  -- of each rule that is gathered
  pub each_gathered : (ls : List (Layer M K)) (names : List Name)
      → Each (λ l. Each (λ p. Each P (f p.1)) l.profiles) ls → Each P (in_order f ls names)
  each_gathered ls [] h = tt
  each_gathered ls (name ∷ names) h =
      joined P (flat_map (in_layer f name) ls) (in_order f ls names) (in_layers name ls h) (each_gathered ls names h)
