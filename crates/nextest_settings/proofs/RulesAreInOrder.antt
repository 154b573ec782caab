-- Rules that are gathered name by name and source by source are in the order of their places.
use Rattle.std.proofs.Common.{◌≡◌, ◌≤◌, ◌+◌, inl, inr, ℕ, zero, suc, List, [], ◌∷◌, ◌++◌, map, length, Option, Some, None, option_and_then, slice_get, refl, sym, ◌∙◌, arith, append_assoc, length-append, add-zero}
use Rattle.std.proofs.lemmas.List.{map-append}
use Rattle.std.specs.List.{AllByRecursion, flat_map}
use Rattle.nextest_tables.specs.Written.{Name}
use Rattle.nextest_rules.specs.Rules.{LayerProfile, Layer}
use Rattle.nextest_settings.specs.Chains.{in_layer, in_order}
use Rattle.nextest_settings.specs.Order.{RulePlace, Before, Ascend, at_place, RulesAreInOrder}

-- lists in general

module _ {X : Type 0} where
  all_more : (P Q : X → Type 0) → ((x : X) → P x → Q x) → (xs : List X) → AllByRecursion P xs → AllByRecursion Q xs
  all_more P Q f [] h = tt
  all_more P Q f (x ∷ xs) h = (f x h.0, all_more P Q f xs h.1)

  all_append : (P : X → Type 0) (xs ys : List X) → AllByRecursion P xs → AllByRecursion P ys
      → AllByRecursion P (xs ++ ys)
  all_append P [] ys h k = k
  all_append P (x ∷ xs) ys h k = (h.0, all_append P xs ys h.1 k)

  at_end : (before rest : List X) (x : X) → slice_get (before ++ x ∷ rest) (length before) ≡ Some x
  at_end [] rest x = refl
  at_end (y ∷ before) rest x = at_end before rest x

  -- an element of either part
  abbrev Among : X → List X → Type 0
  Among x xs = (n : ℕ) × (slice_get xs n ≡ Some x)

  among_left : (x : X) (xs ys : List X) (n : ℕ) → slice_get xs n ≡ Some x → Among x (xs ++ ys)
  among_left x [] ys n e = absurd cc
  among_left x (y ∷ xs) ys zero e = (0, e)
  among_left x (y ∷ xs) ys (suc n) e = let h = among_left x xs ys n e in (suc h.0, h.1)

  among_right : (x : X) (xs ys : List X) → Among x ys → Among x (xs ++ ys)
  among_right x [] ys h = h
  among_right x (y ∷ xs) ys h = let k = among_right x xs ys h in (suc k.0, k.1)

and_then_some : {A B : Type 0} (f : A → Option B) (o : Option A) (y : B) → option_and_then f o ≡ Some y
    → (x : A) × (o ≡ Some x) × (f x ≡ Some y)
and_then_some f None y e = absurd cc
and_then_some f (Some x) y e = (x, refl, e)

ascend_append : (ps qs : List RulePlace) → Ascend ps → Ascend qs
    → AllByRecursion (λ p. AllByRecursion (Before p) qs) ps → Ascend (ps ++ qs)
ascend_append [] qs h k all = k
ascend_append (p ∷ ps) qs h k all = (all_append (Before p) ps qs h.0 all.0, ascend_append ps qs h.1 k all.1)

-- the places of rules, by recursion
abbrev places_in : {X : Type 0} → ℕ → ℕ → ℕ → List X → List RulePlace
places_in p l i [] = []
places_in p l i (r ∷ rs) = record { name = p; layer = l; index = i } ∷ places_in p l (i + 1) rs

-- where they lie

within : {X : Type 0} (p l i : ℕ) (rs : List X)
    → AllByRecursion (λ q. (q.name ≡ p) × (q.layer ≡ l) × (i ≤ q.index)) (places_in p l i rs)
within p l i [] = tt
within p l i (r ∷ rs) = (
  (refl, refl, omega arith),
  all_more (λ q. (q.name ≡ p) × (q.layer ≡ l) × (i + 1 ≤ q.index))
      (λ q. (q.name ≡ p) × (q.layer ≡ l) × (i ≤ q.index)) (λ q h. (h.0, h.1, omega (arith, h.2)))
      (places_in p l (i + 1) rs) (within p l (i + 1) rs),
)

ascend_in : {X : Type 0} (p l i : ℕ) (rs : List X) → Ascend (places_in p l i rs)
ascend_in p l i [] = tt
ascend_in p l i (r ∷ rs) = (
  all_more (λ q. (q.name ≡ p) × (q.layer ≡ l) × (i + 1 ≤ q.index))
      (Before (record { name = p; layer = l; index = i }))
      (λ q h. inr (sym h.0, inr (sym h.1, omega (arith, h.2)))) (places_in p l (i + 1) rs)
      (within p l (i + 1) rs),
  ascend_in p l (i + 1) rs,
)

-- which rules are there

one_more : {X : Type 0} (before rest : List X) (x : X) → (before ++ x ∷ []) ++ rest ≡ before ++ x ∷ rest
one_more before rest x = append_assoc before (x ∷ []) rest

length_more : {X : Type 0} (before : List X) (x : X) → length (before ++ x ∷ []) ≡ length before + 1
length_more before x = rw (length-append before (x ∷ [])) refl

-- every place with a rule is there

place_in : {X : Type 0} (p l i k : ℕ) (rs : List X) (r : X) → slice_get rs k ≡ Some r
    → Among (record { name = p; layer = l; index = i + k }) (places_in p l i rs)
place_in p l i k [] r e = absurd cc
place_in p l i zero (x ∷ rs) r e = (0, rw add-zero refl)
place_in p l i (suc k) (x ∷ rs) r e =
    let h = place_in p l (i + 1) k rs r e in
    let same : (i + 1) + k ≡ i + suc k = omega arith in
    (suc h.0, rw (← same) h.1)

module _ {M K X : Type 0} (f : LayerProfile M K → List X) where
  abbrev places_on : Name → ℕ → ℕ → List (Layer M K) → List RulePlace
  places_on name p l [] = []
  places_on name p l (layer ∷ ls) = places_in p l 0 (in_layer f name layer) ++ places_on name p (l + 1) ls

  abbrev places_of : List (Layer M K) → ℕ → List Name → List RulePlace
  places_of layers p [] = []
  places_of layers p (name ∷ names) = places_on name p 0 layers ++ places_of layers (p + 1) names

  within_on : (name : Name) (p l : ℕ) (ls : List (Layer M K))
      → AllByRecursion (λ q. (q.name ≡ p) × (l ≤ q.layer)) (places_on name p l ls)
  within_on name p l [] = tt
  within_on name p l (layer ∷ ls) =
      all_append (λ q. (q.name ≡ p) × (l ≤ q.layer)) (places_in p l 0 (in_layer f name layer))
      (places_on name p (l + 1) ls)
      (all_more (λ q. (q.name ≡ p) × (q.layer ≡ l) × (0 ≤ q.index)) (λ q. (q.name ≡ p) × (l ≤ q.layer))
      (λ q h. (h.0, omega (arith, h.1))) (places_in p l 0 (in_layer f name layer))
      (within p l 0 (in_layer f name layer)))
      (all_more (λ q. (q.name ≡ p) × (l + 1 ≤ q.layer)) (λ q. (q.name ≡ p) × (l ≤ q.layer))
      (λ q h. (h.0, omega (arith, h.1))) (places_on name p (l + 1) ls) (within_on name p (l + 1) ls))

  ascend_on : (name : Name) (p l : ℕ) (ls : List (Layer M K)) → Ascend (places_on name p l ls)
  ascend_on name p l [] = tt
  ascend_on name p l (layer ∷ ls) =
      let further = within_on name p (l + 1) ls in
      ascend_append (places_in p l 0 (in_layer f name layer)) (places_on name p (l + 1) ls)
      (ascend_in p l 0 (in_layer f name layer)) (ascend_on name p (l + 1) ls)
      (all_more (λ q. (q.name ≡ p) × (q.layer ≡ l) × (0 ≤ q.index))
      (λ q. AllByRecursion (Before q) (places_on name p (l + 1) ls))
      (λ q h. all_more (λ r. (r.name ≡ p) × (l + 1 ≤ r.layer)) (Before q)
      (λ r k. inr (h.0 ∙ sym k.0, inl (omega (arith, h.1, k.1)))) (places_on name p (l + 1) ls) further)
      (places_in p l 0 (in_layer f name layer)) (within p l 0 (in_layer f name layer)))

  within_of : (layers : List (Layer M K)) (p : ℕ) (names : List Name)
      → AllByRecursion (λ q. p ≤ q.name) (places_of layers p names)
  within_of layers p [] = tt
  within_of layers p (name ∷ names) =
      all_append (λ q. p ≤ q.name) (places_on name p 0 layers) (places_of layers (p + 1) names)
      (all_more (λ q. (q.name ≡ p) × (0 ≤ q.layer)) (λ q. p ≤ q.name) (λ q h. omega (arith, h.0))
      (places_on name p 0 layers) (within_on name p 0 layers))
      (all_more (λ q. p + 1 ≤ q.name) (λ q. p ≤ q.name) (λ q h. omega (arith, h))
      (places_of layers (p + 1) names) (within_of layers (p + 1) names))

  ascend_of : (layers : List (Layer M K)) (p : ℕ) (names : List Name) → Ascend (places_of layers p names)
  ascend_of layers p [] = tt
  ascend_of layers p (name ∷ names) =
      let further = within_of layers (p + 1) names in
      ascend_append (places_on name p 0 layers) (places_of layers (p + 1) names) (ascend_on name p 0 layers)
      (ascend_of layers (p + 1) names)
      (all_more (λ q. (q.name ≡ p) × (0 ≤ q.layer)) (λ q. AllByRecursion (Before q) (places_of layers (p + 1) names))
      (λ q h. all_more (λ r. p + 1 ≤ r.name) (Before q) (λ r k. inl (omega (arith, h.0, k)))
      (places_of layers (p + 1) names) further)
      (places_on name p 0 layers) (within_on name p 0 layers))

  stand_in : (layers : List (Layer M K)) (names : List Name) (p l : ℕ) (name : Name) (layer : Layer M K)
      → slice_get names p ≡ Some name → slice_get layers l ≡ Some layer → (before rest : List (X))
      → before ++ rest ≡ in_layer f name layer
      → map (at_place f layers names) (places_in p l (length before) rest) ≡ map Some rest
  stand_in layers names p l name layer n s before [] e = refl
  stand_in layers names p l name layer n s before (r ∷ rest) e =
      let here : at_place f layers names (record { name = p; layer = l; index = length before }) ≡ Some r =
      rw (n, s, ← e) (at_end before rest r) in
      let there = stand_in layers names p l name layer n s (before ++ r ∷ []) rest (one_more before rest r ∙ e) in
      let tail : map (at_place f layers names) (places_in p l (length before + 1) rest) ≡ map Some rest =
      rw (← length_more before r) there in
      λ i. here i ∷ tail i

  stand_on : (layers : List (Layer M K)) (names : List Name) (p : ℕ) (name : Name)
      → slice_get names p ≡ Some name → (before rest : List (Layer M K)) → before ++ rest ≡ layers
      → map (at_place f layers names) (places_on name p (length before) rest)
      ≡ map Some (flat_map (in_layer f name) rest)
  stand_on layers names p name n before [] e = refl
  stand_on layers names p name n before (layer ∷ rest) e =
      let s : slice_get layers (length before) ≡ Some layer = rw (← e) (at_end before rest layer) in
      let here = stand_in layers names p (length before) name layer n s [] (in_layer f name layer) refl in
      let there = stand_on layers names p name n (before ++ layer ∷ []) rest (one_more before rest layer ∙ e) in
      let tail : map (at_place f layers names) (places_on name p (length before + 1) rest)
      ≡ map Some (flat_map (in_layer f name) rest) = rw (← length_more before layer) there in
      map-append (at_place f layers names) (places_in p (length before) 0 (in_layer f name layer))
      (places_on name p (length before + 1) rest)
      ∙ (λ i. here i ++ tail i)
      ∙ sym (map-append Some (in_layer f name layer) (flat_map (in_layer f name) rest))

  stand_of : (layers : List (Layer M K)) (names : List Name) (before rest : List Name)
      → before ++ rest ≡ names → map (at_place f layers names) (places_of layers (length before) rest)
      ≡ map Some (in_order f layers rest)
  stand_of layers names before [] e = refl
  stand_of layers names before (name ∷ rest) e =
      let n : slice_get names (length before) ≡ Some name = rw (← e) (at_end before rest name) in
      let here = stand_on layers names (length before) name n [] layers refl in
      let there = stand_of layers names (before ++ name ∷ []) rest (one_more before rest name ∙ e) in
      let tail : map (at_place f layers names) (places_of layers (length before + 1) rest)
      ≡ map Some (in_order f layers rest) = rw (← length_more before name) there in
      map-append (at_place f layers names) (places_on name (length before) 0 layers)
      (places_of layers (length before + 1) rest)
      ∙ (λ i. here i ++ tail i)
      ∙ sym (map-append Some (flat_map (in_layer f name) layers) (in_order f layers rest))

  place_on : (name : Name) (p l m k : ℕ) (ls : List (Layer M K)) (layer : Layer M K) (r : X)
      → slice_get ls m ≡ Some layer → slice_get (in_layer f name layer) k ≡ Some r
      → Among (record { name = p; layer = l + m; index = k }) (places_on name p l ls)
  place_on name p l m k [] layer r s e = absurd cc
  place_on name p l zero k (x ∷ ls) layer r s e =
      let same : x ≡ layer = cc in
      let h = place_in p l 0 k (in_layer f name x) r (rw same e) in
      rw add-zero (among_left (record { name = p; layer = l; index = k })
      (places_in p l 0 (in_layer f name x)) (places_on name p (l + 1) ls) h.0
      (let z : 0 + k ≡ k = omega arith in rw z at h.1))
  place_on name p l (suc m) k (x ∷ ls) layer r s e =
      let h = place_on name p (l + 1) m k ls layer r s e in
      let same : (l + 1) + m ≡ l + suc m = omega arith in
      among_right (record { name = p; layer = l + suc m; index = k }) (places_in p l 0 (in_layer f name x))
      (places_on name p (l + 1) ls) (rw (← same) h)

  place_of : (layers : List (Layer M K)) (p j m k : ℕ) (names : List Name) (name : Name) (layer : Layer M K)
      (r : X) → slice_get names j ≡ Some name → slice_get layers m ≡ Some layer
      → slice_get (in_layer f name layer) k ≡ Some r
      → Among (record { name = p + j; layer = m; index = k }) (places_of layers p names)
  place_of layers p j m k [] name layer r n s e = absurd cc
  place_of layers p zero m k (x ∷ names) name layer r n s e =
      let same : x ≡ name = cc in
      let h = place_on x p 0 m k layers layer r s (rw same e) in
      rw add-zero (among_left (record { name = p; layer = m; index = k }) (places_on x p 0 layers)
      (places_of layers (p + 1) names) h.0 (let z : 0 + m ≡ m = omega arith in rw z at h.1))
  place_of layers p (suc j) m k (x ∷ names) name layer r n s e =
      let h = place_of layers (p + 1) j m k names name layer r n s e in
      let same : (p + 1) + j ≡ p + suc j = omega arith in
      among_right (record { name = p + suc j; layer = m; index = k }) (places_on x p 0 layers)
      (places_of layers (p + 1) names) (rw (← same) h)

  pub in_place_order : (layers : List (Layer M K)) (names : List Name)
      → RulesAreInOrder f layers names (in_order f layers names)
  in_place_order layers names = record {
    places = places_of layers 0 names;
    ascend = ascend_of layers 0 names;
    stand = stand_of layers names [] names refl;
    all = λ p r e.
        let found = and_then_some
        (λ name. option_and_then (λ layer. slice_get (in_layer f name layer) p.index)
        (slice_get layers p.layer)) (slice_get names p.name) r e in
        let below = and_then_some (λ layer. slice_get (in_layer f found.0 layer) p.index)
        (slice_get layers p.layer) r found.2 in
        let h = place_of layers 0 p.name p.layer p.index names found.0 below.0 r found.1 below.1 below.2 in
        let z : 0 + p.name ≡ p.name = omega arith in
        rw z at h;
  }
