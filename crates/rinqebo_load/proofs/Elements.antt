-- Lists that are read element by element.
use Rattle.std.proofs.Common.{◌≡◌, ℕ, ◌+◌, ◌<◌, ◌≤◌, suc, List, [], ◌∷◌, ◌++◌, Option, None, Some, ap, sym, ◌∙◌, refl, drop, arith, filter_map, get_or, length, map, take, slice_get}
use Rattle.std.proofs.Math.Seq.{drop-cons}
use Rattle.std.proofs.lemmas.List.{get_or-map, map-append, take_all, take_more, take-append-drop}
use Rattle.std.proofs.lemmas.List.Elements.{filter_map-append}

-- an element, seen in another way
pub seen_at : {V X : Type 0} (view : V → X) (values : List V) (i : ℕ) (v : V) → i < length values
    → v ≡ get_or values i v → view v ≡ get_or (map view values) i (view v)
seen_at view values i v below at = ap view at ∙ sym (get_or-map view values i v (view v) below)

-- the element at a place, seen in another way
pub seen_get : {V X : Type 0} (view : V → X) (values : List V) (i : ℕ) (d : V) → i < length values
    → view (get_or values i d) ≡ get_or (map view values) i (view d)
seen_get view values i d below = sym (get_or-map view values i d (view d) below)

-- nothing is read from one element more
pub none_more : {V X Y : Type 0} (view : V → X) (h : X → Option Y) (values : List V) (i : ℕ) (v d : V)
    → i < length values → v ≡ get_or values i d → h (view v) ≡ None
    → filter_map h (map view (take i values)) ≡ [] → filter_map h (map view (take (i + 1) values)) ≡ []
none_more view h values i v d below at none before =
    let here : h (view (get_or values i d)) ≡ None = ap (λ w. h (view w)) (sym at) ∙ none in
    ap (λ vs. filter_map h (map view vs)) (take_more values i d below)
    ∙ ap (filter_map h) (map-append view (take i values) (get_or values i d ∷ []))
    ∙ filter_map-append h (map view (take i values)) (view (get_or values i d) ∷ [])
    ∙ ap (λ front. front ++ filter_map h (view (get_or values i d) ∷ [])) before
    ∙ rw here refl

-- the first that is read is that of an element before which nothing is read
pub first_here : {V X Y : Type 0} (view : V → X) (h : X → Option Y) (values : List V) (i : ℕ) (v d : V) (y : Y)
    → i < length values → v ≡ get_or values i d → h (view v) ≡ Some y
    → filter_map h (map view (take i values)) ≡ [] → slice_get (filter_map h (map view values)) 0 ≡ Some y
first_here view h values i v d y below at is before =
    let here : h (view (get_or values i d)) ≡ Some y = ap (λ w. h (view w)) (sym at) ∙ is in
    let split : values ≡ take i values ++ (get_or values i d ∷ drop (suc i) values) =
    sym (take-append-drop i values) ∙ ap (λ rest. take i values ++ rest) (drop-cons values i d below) in
    let read : filter_map h (map view values)
    ≡ filter_map h (map view (take i values)) ++ filter_map h (view (get_or values i d) ∷ map view (drop (suc i) values)) =
    ap (λ vs. filter_map h (map view vs)) split
    ∙ ap (filter_map h) (map-append view (take i values) (get_or values i d ∷ drop (suc i) values))
    ∙ filter_map-append h (map view (take i values)) (view (get_or values i d) ∷ map view (drop (suc i) values)) in
    ap (λ ys. slice_get ys 0)
    (read ∙ ap (λ front. front ++ filter_map h (view (get_or values i d) ∷ map view (drop (suc i) values))) before)
    ∙ rw here refl

-- nothing is read from all
pub none_at_all : {V X Y : Type 0} (view : V → X) (h : X → Option Y) (values : List V) (i : ℕ)
    → length values ≤ i → filter_map h (map view (take i values)) ≡ []
    → slice_get (filter_map h (map view values)) 0 ≡ None
none_at_all view h values i passed before =
    ap (λ ys. slice_get ys 0)
    (ap (λ vs. filter_map h (map view vs)) (sym (take_all i values passed)) ∙ before)
