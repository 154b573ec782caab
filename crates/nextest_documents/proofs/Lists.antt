-- Facts of lists, element by element.
use Rattle.std.proofs.Common.{◌≡◌, ◌⊎◌, inl, inr, ℕ, zero, suc, ◌<◌, ◌≤◌, ◌+◌, true, false, List, [], ◌∷◌, ◌++◌, length, take, get_or, map, Contains, refl, sym, ap, ◌∙◌, subst, arith}
use Rattle.std.proofs.lemmas.List.{get_or-map, length-map, take_more}
use Rattle.std.proofs.lemmas.List.Elements.{Contains-append_left, Contains-append_right, Contains-get_or, Contains-push_cases}
use Rattle.std.specs.List.{AllByRecursion}

-- an element of a list
pub data In {X : Type 0} (x : X) : List X → Type 0 where
  here : {xs : List X} → In x (x ∷ xs)
  there : {y : X} {xs : List X} → In x xs → In x (y ∷ xs)

pub here_at : {X : Type 0} (x y : X) (xs : List X) → x ≡ y → In x (y ∷ xs)
here_at {X} x y xs same = let P : X → Type 0 = λ z. In x (z ∷ xs) in subst P same here

pub in_front : {X : Type 0} (x : X) (xs ys : List X) → In x xs → In x (xs ++ ys)
in_front x l ys here = here
in_front x l ys (there {xs = xs} i) = there (in_front x xs ys i)

pub in_back : {X : Type 0} (x : X) (xs ys : List X) → In x ys → In x (xs ++ ys)
in_back x [] ys i = i
in_back x (y ∷ xs) ys i = there (in_back x xs ys i)

pub in_map : {X Y : Type 0} (f : X → Y) (x : X) (xs : List X) → In x xs → In (f x) (map f xs)
in_map f x l here = here
in_map f x l (there {xs = xs} i) = there (in_map f x xs i)

pub contains_in : {X : Type 0} (x : X) (xs : List X) → In x xs → Contains xs x
contains_in x l (here {xs = xs}) = Contains-append_left (x ∷ []) xs x (0, omega arith, refl)
contains_in x l (there {y = y} {xs = xs} i) = Contains-append_right (y ∷ []) xs x (contains_in x xs i)

-- a fact of each element, one by one
pub all_at : {X : Type 0} (P : X → Type 0) (x : X) (xs : List X) → AllByRecursion P xs → In x xs → P x
all_at P x l all here = all.0
all_at P x l all (there {xs = xs} i) = all_at P x xs all.1 i

pub all_push : {X : Type 0} (P : X → Type 0) (xs : List X) (x : X) → AllByRecursion P xs → P x
    → AllByRecursion P (xs ++ x ∷ [])
all_push P [] x all h = (h, tt)
all_push P (y ∷ xs) x all h = (all.0, all_push P xs x all.1 h)

pub all_append : {X : Type 0} (P : X → Type 0) (xs ys : List X) → AllByRecursion P xs → AllByRecursion P ys
    → AllByRecursion P (xs ++ ys)
all_append P [] ys all more = more
all_append P (x ∷ xs) ys all more = (all.0, all_append P xs ys all.1 more)

pub all_map : {X : Type 0} (P Q : X → Type 0) (xs : List X) → ((x : X) → P x → Q x) → AllByRecursion P xs
    → AllByRecursion Q xs
all_map P Q [] turn all = tt
all_map P Q (x ∷ xs) turn all = (turn x all.0, all_map P Q xs turn all.1)

-- that of an element in the middle
pub middle : {X : Type 0} (P : X → Type 0) (y : X) (front others : List X)
    → AllByRecursion P (front ++ y ∷ others) → P y
middle P y [] others all = all.0
middle P y (z ∷ front) others all = middle P y front others all.1

-- of two splits of a list the second is not behind the first
pub not_behind : {X : Type 0} (P : X → Type 0) (x y : X) (above others : List X) → AllByRecursion P above
    → (P y → ⊥) → (below front : List X) → below ++ x ∷ above ≡ front ++ y ∷ others → length front ≤ length below
not_behind P x y above others all fails [] [] is = omega arith
not_behind P x y above others all fails [] (z ∷ front) is =
    let rest : above ≡ front ++ y ∷ others = cc in
    absurd (fails (middle P y front others (subst (AllByRecursion P) rest all)))
not_behind P x y above others all fails (w ∷ below) [] is = omega arith
not_behind P x y above others all fails (w ∷ below) (z ∷ front) is =
    let rest : below ++ x ∷ above ≡ front ++ y ∷ others = cc in
    let shorter = not_behind P x y above others all fails below front rest in
    omega (arith, shorter)

-- of two splits of a list the second is neither behind the first, nor the same, nor before it
pub no_split : {X : Type 0} (P Q : X → Type 0) (x y : X) (above others : List X) → AllByRecursion P above
    → AllByRecursion Q others → (P y → ⊥) → (x ≡ y → ⊥) → (Q x → ⊥) → (below front : List X)
    → below ++ x ∷ above ≡ front ++ y ∷ others → ⊥
no_split P Q x y above others all each fails differ not [] [] is = differ cc
no_split P Q x y above others all each fails differ not [] (z ∷ front) is =
    let rest : above ≡ front ++ y ∷ others = cc in
    fails (middle P y front others (subst (AllByRecursion P) rest all))
no_split P Q x y above others all each fails differ not (w ∷ below) [] is =
    let rest : below ++ x ∷ above ≡ others = cc in
    not (middle Q x below above (subst (AllByRecursion Q) (sym rest) each))
no_split P Q x y above others all each fails differ not (w ∷ below) (z ∷ front) is =
    let rest : below ++ x ∷ above ≡ front ++ y ∷ others = cc in
    no_split P Q x y above others all each fails differ not below front rest

-- an element that is read
pub in_at : {X : Type 0} (xs : List X) (i : ℕ) (x : X) → i < length xs → x ≡ get_or xs i x → In x xs
in_at [] i x within is = absurd (omega arith)
in_at (y ∷ xs) zero x within is = here_at x y xs is
in_at (y ∷ xs) (suc i) x within is = there (in_at xs i x (omega arith) is)

module _ {X Y : Type 0} (f : X → Y) (xs : List X) (i : ℕ) (d : X) (within : i < length xs) where
  -- one more of the first elements
  pub taken : take (i + 1) (map f xs) ≡ take i (map f xs) ++ f (get_or xs i d) ∷ []
  taken =
      let inside : i < length (map f xs) = rw (length-map xs f) within in
      take_more (map f xs) i (f d) inside ∙ ap (λ y. take i (map f xs) ++ y ∷ []) (get_or-map f xs i d (f d) within)

  pub all_taken : (P : Y → Type 0) → AllByRecursion P (take i (map f xs)) → P (f (get_or xs i d))
      → AllByRecursion P (take (i + 1) (map f xs))
  all_taken P all one = subst (AllByRecursion P) (sym taken)
      (all_push P (take i (map f xs)) (f (get_or xs i d)) all one)

pub never : {X : Type 0} → false ≡ true → X
never e = cc

pub in_contained : {X : Type 0} (x : X) (xs : List X) → Contains xs x → In x xs
in_contained x xs (i, within, is) = in_at xs i x within (sym is)

module _ {X Y : Type 0} (f : X → Y) (xs : List X) (i : ℕ) (d : X) (within : i < length xs) where
  -- one of the first elements, or the one behind them
  pub contained_taken : (y : Y) → Contains (take (i + 1) (map f xs)) y
      → Contains (take i (map f xs)) y ⊎ (f (get_or xs i d) ≡ y)
  contained_taken y c =
      Contains-push_cases (take i (map f xs)) (f (get_or xs i d)) y
      (subst (λ l. Contains l y) (taken f xs i d within) c)

-- an element of a list, by its place
pub contains_at : {X Y : Type 0} (f : X → Y) (xs : List X) (i : ℕ) (d : X) → i < length xs
    → Contains (map f xs) (f (get_or xs i d))
contains_at f xs i d within =
    let inside : i < length (map f xs) = rw (length-map xs f) within in
    subst (Contains (map f xs)) (get_or-map f xs i d (f d) within) (Contains-get_or (map f xs) i (f d) inside)

pub in_either : {X : Type 0} (x : X) (xs ys : List X) → In x (xs ++ ys) → In x xs ⊎ In x ys
in_either x [] ys i = inr i
in_either x (y ∷ xs) ys here = inl here
in_either x (y ∷ xs) ys (there i) =
    elim (in_either x xs ys i) [ inl j ↦ inl (there j) | inr j ↦ inr j ]

pub all_from : {X : Type 0} (P : X → Type 0) (xs : List X) → ((x : X) → In x xs → P x) → AllByRecursion P xs
all_from P [] each = tt
all_from P (x ∷ xs) each = (each x here, all_from P xs (λ y i. each y (there i)))
