-- What holds of each part: of a list, of one in another order, of one that may be missing.
use Rattle.std.proofs.Common.{◌≡◌, ◌↔◌, ◌⊎◌, ⊎_elim, ℕ, ◌+◌, List, [], ◌∷◌, filter, Bool, true, false, not, ◌||◌, Option, Some, None, option_map, option_to_list, refl, inl, inr}
use Rattle.std.specs.List.{cons_option, enumerate_from, filter_map}
use Rattle.std.proofs.lemmas.Bool.{false≢true}
use Rattle.nextest_inheritance.specs.Names.{is_default, default_first}
use Rattle.nextest_sources.specs.InputFaults.{Each}
use Rattle.nextest_tables.specs.Written.{Name}
use Rattle.nextest_rules.specs.Accepted.{IfWritten}
use Rattle.nextest_rules.proofs.Passing.{iff_trans, iff_both, each_append}

pub split_at : {X : Type 0} (P : X → Type 0) (p : X → Bool) (x : X) (xs : List X) (b : Bool) → p x ≡ b
    → (Each P (filter p xs) × Each P (filter (λ y. not (p y)) xs)) ↔ Each P xs
    → (Each P (filter p (x ∷ xs)) × Each P (filter (λ y. not (p y)) (x ∷ xs))) ↔ (P x × Each P xs)
split_at P p x xs true is rest = (
  λ h. let first = rw is at h.0 in let others = rw is at h.1 in
      (first.0, rest.0 (first.1, others)),
  λ q. (rw is (q.0, (rest.1 q.1).0), rw is (rest.1 q.1).1),
)
split_at P p x xs false is rest = (
  λ h. let first = rw is at h.0 in let others = rw is at h.1 in
      (others.0, rest.0 (first, others.1)),
  λ q. (rw is (rest.1 q.1).0, rw is (q.0, (rest.1 q.1).1)),
)

pub each_split : {X : Type 0} (P : X → Type 0) (p : X → Bool) (xs : List X)
    → (Each P (filter p xs) × Each P (filter (λ y. not (p y)) xs)) ↔ Each P xs
each_split P p [] = (λ h. tt, λ h. (tt, tt))
each_split P p (x ∷ xs) = split_at P p x xs (p x) refl (each_split P p xs)

-- a fact of each profile, whatever their order
pub each_in_order : {X : Type 0} (P : Name × X → Type 0) (es : List (Name × X)) → Each P (default_first es) ↔ Each P es
each_in_order P es =
    iff_trans (each_append P (filter (λ e. is_default e.0) es) (filter (λ e. not (is_default e.0)) es))
    (each_split P (λ e. is_default e.0) es)

pub each_numbered : {X : Type 0} (P : X → Type 0) (n : ℕ) (xs : List X)
    → Each (λ e. P e.1) (enumerate_from n xs) ↔ Each P xs
each_numbered P n [] = (λ h. h, λ h. h)
each_numbered P n (x ∷ xs) = iff_both (λ h. h, λ h. h) (each_numbered P (n + 1) xs)

pub mapped_at : {Y : Type 0} (o : Option Y) (ys : List Y) (Q : Type 0) → (ys ≡ []) ↔ Q
    → (cons_option o ys ≡ []) ↔ ((o ≡ None) × Q)
mapped_at None ys Q rest = (λ h. (refl, rest.0 h), λ p. rest.1 p.1)
mapped_at (Some y) ys Q rest = (λ h. cc, λ p. absurd (some_is_none y p.0))
  where
    some_is_none : {Y : Type 0} (y : Y) → Some y ≡ None → ⊥
    some_is_none y h = cc

-- nothing is given for any
pub filter_map_none : {X Y : Type 0} (h : X → Option Y) (xs : List X)
    → (filter_map h xs ≡ []) ↔ Each (λ x. h x ≡ None) xs
filter_map_none h [] = (λ e. tt, λ e. refl)
filter_map_none h (x ∷ xs) = mapped_at (h x) (filter_map h xs) (Each (λ x. h x ≡ None) xs) (filter_map_none h xs)

pub each_of_option : {X : Type 0} (P : X → Type 0) (o : Option X) → Each P (option_to_list o) ↔ IfWritten o P
each_of_option P None = (λ h. tt, λ h. tt)
each_of_option P (Some x) = (λ h. h.0, λ h. (h, tt))

pub listed_none : {X : Type 0} (o : Option X) → (option_to_list o ≡ []) ↔ (o ≡ None)
listed_none None = (λ h. refl, λ h. refl)
listed_none (Some x) = (λ h. cc, λ h. cc)

pub option_map_none : {X Y : Type 0} (f : X → Y) (o : Option X) → (option_map f o ≡ None) ↔ (o ≡ None)
option_map_none f None = (λ h. refl, λ h. refl)
option_map_none f (Some x) = (λ h. cc, λ h. cc)

pub either : (a b : Bool) → ((a || b) ≡ true) ↔ ((a ≡ true) ⊎ (b ≡ true))
either true b = (λ h. inl refl, λ h. refl)
either false b = (λ h. inr h, ⊎_elim (λ h. absurd (false≢true h)) (λ h. h))
