-- Turns of loops that gather.
use Rattle.std.proofs.Common.{◌≡◌, ℕ, ◌+◌, ◌<◌, List, [], ◌∷◌, ◌++◌, length, get_or, take, map, refl, ap, sym, ◌∙◌, arith, Option, Some, None, Bor}
use Rattle.std.proofs.lemmas.Grind.{common_steps}
use Rattle.std.proofs.lemmas.List.{map-append}
use Rattle.std.specs.List.{filter_map, cons_option}

cons_option-append : {R : Type 0} (o : Option R) (xs ys : List R) → cons_option o (xs ++ ys) ≡ cons_option o xs ++ ys
cons_option-append None xs ys = refl
cons_option-append (Some x) xs ys = refl

filter_map-append : {X R : Type 0} (h : X → Option R) (xs ys : List X)
    → filter_map h (xs ++ ys) ≡ filter_map h xs ++ filter_map h ys
filter_map-append h [] ys = refl
filter_map-append h (x ∷ xs) ys =
    rw (filter_map-append h xs ys) (cons_option-append (h x) (filter_map h xs) (filter_map h ys))

module _ {B C R : Type 0} (h : C → Option R) (g : B → C) (xs : List B) (i : ℕ) where
  -- one more is looked at
  pub filter_turn : (old new : List R) (x d : B) → old ≡ filter_map h (map g (take i xs)) → i < length xs
      → x ≡ get_or xs i d → new ≡ old ++ cons_option (h (g x)) [] → new ≡ filter_map h (map g (take (i + 1) xs))
  filter_turn old new x d was below at is_new =
      let more : take (i + 1) xs ≡ take i xs ++ x ∷ [] = grind (arith, common_steps) in
      rw (more, is_new, map-append g (take i xs) (x ∷ []), filter_map-append h (map g (take i xs)) (g x ∷ []), was) refl

ref_view : {X Y : Type 0} (f : X → Y) (rs : List (Bor X)) → map (λ r. f r.now) rs ≡ map f (map (λ r. r.now) rs)
ref_view f [] = refl
ref_view f (r ∷ rs) = ap (λ ys. f r.now ∷ ys) (ref_view f rs)

-- a view of references, with more of them
pub more_refs : {X Y : Type 0} (f : X → Y) (old new : List (Bor X)) (more : List X)
    → map (λ r. r.now) new ≡ map (λ r. r.now) old ++ more
    → map (λ r. f r.now) new ≡ map (λ r. f r.now) old ++ map f more
more_refs f old new more is =
    ref_view f new ∙ ap (map f) is ∙ map-append f (map (λ r. r.now) old) more
    ∙ ap (λ ys. ys ++ map f more) (sym (ref_view f old))
