-- The keys of settings, one after another.
use Rattle.std.proofs.Common.{◌≡◌, ◌≢◌, ◌∙◌, ◌++◌, ◌+◌, ◌<◌, ℕ, List, [], ◌∷◌, Bool, true, false, cond, Some, ap, append-nil, below_more, filter, length, map, refl, sym, take, get_or, slice_get}
use Rattle.std.proofs.lemmas.List.{map-append, take_more}
use Rattle.std.proofs.lemmas.Option.{slice_get-get_or}

-- one text more
pub texts_more : {X Y : Type 0} (view : Y → List ℕ) (text : X → List ℕ) (xs : List X) (i : ℕ) (ys : List Y)
    (y : Y) (x d : X) → i < length xs → x ≡ get_or xs i d
    → map view ys ≡ map text (take i xs) → view y ≡ text x
    → map view (ys ++ y ∷ []) ≡ map text (take (i + 1) xs)
texts_more view text xs i ys y x d below at was is =
    let one : view y ≡ text (get_or xs i d) = is ∙ ap text at in
    let more : map text (take (i + 1) xs) ≡ map text (take i xs) ++ text (get_or xs i d) ∷ [] =
    ap (map text) (take_more xs i d below) ∙ map-append text (take i xs) (get_or xs i d ∷ []) in
    map-append view ys (y ∷ []) ∙ (λ j. was j ++ one j ∷ []) ∙ sym more

-- none of the settings so far has the key
abbrev pub NoneHas : {X : Type 0} → (X → List ℕ) → List X → List ℕ → ℕ → Type 0
NoneHas {X} text xs key i = (k : ℕ) → k < i → (x : X) → slice_get xs k ≡ Some x → text x ≢ key

-- nor has one more
pub none_more : {X : Type 0} (text : X → List ℕ) (xs : List X) (key : List ℕ) (i : ℕ) (x d : X)
    → i < length xs → x ≡ get_or xs i d → NoneHas text xs key i → text x ≢ key → NoneHas text xs key (i + 1)
none_more {X} text xs key i x d below at before now =
    let here : slice_get xs i ≡ Some x = slice_get-get_or xs i d below ∙ ap Some (sym at) in
    below_more (λ k. (other : X) → slice_get xs k ≡ Some other → text other ≢ key) i before
    (λ other there. let same : other ≡ x = cc in rw same now)

-- ---- elements that pass a test

kept_front : {X : Type 0} (b : Bool) (y : X) (all front last : List X) → all ≡ front ++ last
    → cond b (y ∷ all) all ≡ cond b (y ∷ front) front ++ last
kept_front true y all front last is = ap (λ more. y ∷ more) is
kept_front false y all front last is = is

filter-one : {X : Type 0} (p : X → Bool) (xs : List X) (x : X)
    → filter p (xs ++ x ∷ []) ≡ filter p xs ++ cond (p x) (x ∷ []) []
filter-one p [] x = refl
filter-one p (y ∷ xs) x =
    kept_front (p y) y (filter p (xs ++ x ∷ [])) (filter p xs) (cond (p x) (x ∷ []) []) (filter-one p xs x)

-- one more element that passes a test
pub filter_more : {X : Type 0} (p : X → Bool) (xs : List X) (i : ℕ) (x d : X) → i < length xs → x ≡ get_or xs i d
    → (now new : List X) → now ≡ filter p (take i xs) → p x ≡ true → new ≡ now ++ x ∷ []
    → new ≡ filter p (take (i + 1) xs)
filter_more p xs i x d below same now new before passes is =
    let taken : take (i + 1) xs ≡ take i xs ++ x ∷ [] = take_more xs i d below
    ∙ ap (λ z. take i xs ++ z ∷ []) (sym same) in
    is ∙ ap (λ front. front ++ x ∷ []) before
    ∙ ap (λ b. filter p (take i xs) ++ cond b (x ∷ []) []) (sym passes)
    ∙ sym (filter-one p (take i xs) x) ∙ ap (filter p) (sym taken)

-- one more element that does not pass
pub filter_same : {X : Type 0} (p : X → Bool) (xs : List X) (i : ℕ) (x d : X) → i < length xs → x ≡ get_or xs i d
    → (now : List X) → now ≡ filter p (take i xs) → p x ≡ false → now ≡ filter p (take (i + 1) xs)
filter_same p xs i x d below same now before fails =
    let taken : take (i + 1) xs ≡ take i xs ++ x ∷ [] = take_more xs i d below
    ∙ ap (λ z. take i xs ++ z ∷ []) (sym same) in
    before ∙ sym (append-nil (filter p (take i xs)))
    ∙ ap (λ b. filter p (take i xs) ++ cond b (x ∷ []) []) (sym fails)
    ∙ sym (filter-one p (take i xs) x) ∙ ap (filter p) (sym taken)
