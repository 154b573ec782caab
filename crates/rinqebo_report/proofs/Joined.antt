-- A loop that writes texts with a separator between each two.
use Rattle.std.proofs.Common.{◌≡◌, ◌<◌, ◌+◌, ℕ, List, [], ◌∷◌, ◌++◌, length, take, get_or, flat_map, map, refl, sym, ap, ◌∙◌, append_assoc}
use Rattle.std.proofs.lemmas.List.{append-nil}
use Rattle.std.proofs.lemmas.Grind.{flat_map-append, take_at_read}
use Rattle.std.proofs.lemmas.List.Folds.{flat_map-map}
use Rattle.rinqebo_report.specs.Joined.{joined, separator_after}

-- one more text is behind its separator
joined-push : {X : Type 0} (s : List ℕ) (f : X → List ℕ) (xs : List X) (x : X)
    → joined s f (xs ++ x ∷ []) ≡ (joined s f xs ++ separator_after s xs) ++ f x
joined-push {X} s f [] x = append-nil (f x)
joined-push {X} s f (y ∷ ys) x =
    let later : X → List ℕ = λ z. s ++ f z in
    ap (λ t. f y ++ t)
    (flat_map-append later ys (x ∷ []) ∙ ap (λ t. flat_map later ys ++ t) (append-nil (s ++ f x)))
    ∙ sym (append_assoc (f y) (flat_map later ys) (s ++ f x))
    ∙ sym (append_assoc (f y ++ flat_map later ys) s (f x))

-- behind one more there is the separator
separator_after-push : {X : Type 0} (s : List ℕ) (xs : List X) (x : X)
    → separator_after s (xs ++ x ∷ []) ≡ s
separator_after-push s [] x = refl
separator_after-push s (y ∷ ys) x = refl

-- what a turn of the loop leaves is right for one place more
pub joined_more : {X : Type 0} (s : List ℕ) (f : X → List ℕ) (xs : List X) (i : ℕ) (x : X)
    → i < length xs → x ≡ get_or xs i x
    → (start old middle new separator : List ℕ)
    → (old ≡ start ++ joined s f (take i xs)) × (separator ≡ separator_after s (take i xs))
    → middle ≡ old ++ separator → new ≡ middle ++ f x
    → (new ≡ start ++ joined s f (take (i + 1) xs)) × (s ≡ separator_after s (take (i + 1) xs))
joined_more {X} s f xs i x lt is start old middle new separator h m n =
    let more : take (i + 1) xs ≡ take i xs ++ x ∷ [] =
    (take_at_read xs i x lt).1 ∙ ap (λ y. take i xs ++ y ∷ []) (sym is) in
    let front : List ℕ = joined s f (take i xs) in
    let behind : List ℕ = separator_after s (take i xs) in
    let written : new ≡ ((start ++ front) ++ behind) ++ f x =
    n ∙ ap (λ t. t ++ f x) (m ∙ ap (λ t. t ++ separator) h.0 ∙ ap (λ t. (start ++ front) ++ t) h.1) in
    let joins : joined s f (take (i + 1) xs) ≡ (front ++ behind) ++ f x =
    ap (joined s f) more ∙ joined-push s f (take i xs) x in (
      written
          ∙ ap (λ t. t ++ f x) (append_assoc start front behind)
          ∙ append_assoc start (front ++ behind) (f x)
          ∙ ap (λ t. start ++ t) (sym joins),
      sym (ap (separator_after s) more ∙ separator_after-push s (take i xs) x),
    )

-- texts that are made first, and joined then
pub joined_mapped : {X : Type 0} (s : List ℕ) (f : X → List ℕ) (xs : List X)
    → joined s f xs ≡ joined s (λ text. text) (map f xs)
joined_mapped {X} s f [] = refl
joined_mapped {X} s f (x ∷ xs) = ap (λ t. f x ++ t) (sym (flat_map-map (λ text. s ++ text) f xs))
