-- A loop that gathers what each of a list gives.
use Rattle.std.proofs.Common.{◌≡◌, ◌∙◌, ◌<◌, ◌+◌, ℕ, List, [], ◌∷◌, ◌++◌, None, Option, Some, ap, ap₂, append-nil, append_assoc, filter_map, get_or, length, map, option_map, slice_get, subst, sym, take}
use Rattle.std.proofs.lemmas.List.{flat_map_more, map-append, take_more}
use Rattle.std.proofs.lemmas.List.Elements.{filter_map-append}
use Rattle.std.proofs.lemmas.Option.{slice_get-get_or, slice_get-map}
use Rattle.std.proofs.lemmas.Slice.Zip.{all_zipped_more}
use Rattle.std.specs.List.{AllZip, cons_option, flat_map}

-- with one more, what was gathered and what is left make up the same
pub one_more : {V A D : Type 0} (see : V → D) (gives : A → D) (old new : List V) (v : V) (x : A) (left : List A)
    (all : List D) → map see old ++ map gives (x ∷ left) ≡ all → new ≡ old ++ v ∷ [] → see v ≡ gives x
    → map see new ++ map gives left ≡ all
one_more see gives old new v x left all so_far is_new same =
    ap (λ vs. map see vs ++ map gives left) is_new
    ∙ ap (λ ds. ds ++ map gives left) (map-append see old (v ∷ []))
    ∙ append_assoc (map see old) (see v ∷ []) (map gives left)
    ∙ ap (λ d. map see old ++ d ∷ map gives left) same
    ∙ so_far

-- the same, where what is put behind is what an element gives
pub one_put : {V B A D : Type 0} (see : V → D) (gives : A → D) (view : B → A) (v : V) (q : B) → see v ≡ gives (view q)
    → (old new : List V) (left : List A) (all : List D) → map see old ++ map gives (view q ∷ left) ≡ all → new ≡ old ++ v ∷ []
    → map see new ++ map gives left ≡ all
one_put see gives view v q same old new left all so_far is_new = one_more see gives old new v (view q) left all so_far is_new same

module _ {B V : Type 0} (see : B → V) (old new : List B) (found : Option B) (gives : Option V)
    (is : option_map see found ≡ gives) where
  -- what is found is put behind the others
  pub picked_one : (one : B) → found ≡ Some one → new ≡ old ++ one ∷ [] → map see new ≡ map see old ++ cons_option gives []
  picked_one one some put =
      ap (map see) put ∙ map-append see old (one ∷ [])
      ∙ ap (λ o. map see old ++ cons_option o []) (sym (sym is ∙ ap (option_map see) some))

  -- nothing is found
  pub picked_none : found ≡ None → new ≡ old → map see new ≡ map see old ++ cons_option gives []
  picked_none none same =
      ap (map see) same ∙ sym (append-nil (map see old))
      ∙ ap (λ o. map see old ++ cons_option o []) (sym (sym is ∙ ap (option_map see) none))

module _ {A : Type 0} (xs : List A) (i : ℕ) (x d : A) (below : i < length xs) (same : x ≡ get_or xs i d) where
  -- the first elements of a list, with one more
  taken : take (i + 1) xs ≡ take i xs ++ x ∷ []
  taken = take_more xs i d below ∙ ap (λ z. take i xs ++ z ∷ []) (sym same)

  -- what is made of them
  made : {B : Type 0} (f : A → B) → map f (take i xs) ++ f x ∷ [] ≡ map f (take (i + 1) xs)
  made f = sym (map-append f (take i xs) (x ∷ [])) ∙ ap (map f) (sym taken)

  -- what is made of the element at a place
  pub made_here : {B : Type 0} (f : A → B) → slice_get (map f xs) i ≡ Some (f x)
  made_here f = slice_get-map f xs i ∙ ap (option_map f) (slice_get-get_or xs i d below ∙ ap Some (sym same))

  -- what is gathered behind other things, with one more
  pub put_more : {B V : Type 0} (see : B → V) (gives : A → V) (before : List V) (old new : List B) (put : B)
      → map see old ≡ before ++ map gives (take i xs) → new ≡ old ++ put ∷ [] → see put ≡ gives x
      → map see new ≡ before ++ map gives (take (i + 1) xs)
  put_more see gives before old new put so_far is_new is =
      ap (map see) is_new ∙ map-append see old (put ∷ []) ∙ ap₂ (λ vs v. vs ++ v ∷ []) so_far is
      ∙ append_assoc before (map gives (take i xs)) (gives x ∷ []) ∙ ap (λ vs. before ++ vs) (made gives)

  -- what each element adds, with what one more adds
  pub added_more : {B C : Type 0} (f : B → List C) (see : A → B) (before old new : List C)
      → old ≡ before ++ flat_map f (map see (take i xs)) → new ≡ old ++ f (see x)
      → new ≡ before ++ flat_map f (map see (take (i + 1) xs))
  added_more f see before old new so_far is =
      is ∙ ap (λ all. all ++ f (see x)) so_far ∙ flat_map_more f before (map see (take i xs)) (see x)
      ∙ ap (λ ys. before ++ flat_map f ys) (made see)

  -- what is picked of the elements, with what is picked of one more
  pub picked_more : {B C : Type 0} (h : B → Option C) (see : A → B) (before old new : List C)
      → old ≡ before ++ filter_map h (map see (take i xs)) → new ≡ old ++ cons_option (h (see x)) []
      → new ≡ before ++ filter_map h (map see (take (i + 1) xs))
  picked_more h see before old new so_far is =
      let front = map see (take i xs) in
      let one = cons_option (h (see x)) [] in
      is ∙ ap (λ all. all ++ one) so_far ∙ append_assoc before (filter_map h front) one
      ∙ ap (λ all. before ++ all) (sym (filter_map-append h front (see x ∷ [])) ∙ ap (filter_map h) (made see))

  -- what holds of the elements of two lists, with one more of each
  pub zipped_more : {B C : Type 0} (R : B → C → Type 0) (see : A → B) (old new : List C) (y : C)
      → AllZip R (map see (take i xs)) old → R (see x) y → new ≡ old ++ y ∷ []
      → AllZip R (map see (take (i + 1) xs)) new
  zipped_more R see old new y so_far is is_new =
      subst (AllZip R (map see (take (i + 1) xs))) (sym is_new)
      (subst (λ bs. AllZip R bs (old ++ y ∷ [])) (made see)
      (all_zipped_more R (map see (take i xs)) old (see x) y so_far is))
