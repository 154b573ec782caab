-- Steps without a fault, and lists that are empty exactly if each element has a fact.
use Rattle.std.proofs.Common.{◌≡◌, ◌↔◌, List, [], ◌∷◌, ◌++◌, map, filter, flat_map, Bool, true, false, not, IsTrue, Option, Some, None, refl, sym, ◌∙◌}
use Rattle.std.specs.Option.{option_or}
use Rattle.std.proofs.lemmas.Bool.{false≢true}
use Rattle.nextest_sources.specs.Causes.{LoadCause}
use Rattle.nextest_sources.specs.InputFaults.{Each}
use Rattle.nextest_sources.specs.Sources.{Source}
use Rattle.nextest_sources.specs.Steps.{LoadStep, check, first_fault}
use Rattle.nextest_sources.specs.Warnings.{Warning}
use Rattle.nextest_sources.proofs.Runs.{first_fault-append}
use Rattle.nextest_rules.specs.Steps.{if_some, if_true, warn_if_some}

-- ---- equivalences

pub iff_trans : {A B C : Type 0} → A ↔ B → B ↔ C → A ↔ C
iff_trans f g = (λ a. g.0 (f.0 a), λ c. f.1 (g.1 c))

pub iff_sym : {A B : Type 0} → A ↔ B → B ↔ A
iff_sym f = (f.1, f.0)

pub iff_both : {A B C D : Type 0} → A ↔ B → C ↔ D → (A × C) ↔ (B × D)
iff_both f g = (λ p. (f.0 p.0, g.0 p.1), λ p. (f.1 p.0, g.1 p.1))

-- ---- steps

no_more : {X : Type 0} (a b : Option X) → (option_or a b ≡ None) ↔ ((a ≡ None) × (b ≡ None))
no_more None b = (λ h. (refl, h), λ p. p.1)
no_more (Some x) b = (λ h. cc, λ p. p.0)

-- two lists of steps have no fault exactly if neither has one
pub both_pass : (xs ys : List LoadStep)
    → (first_fault (xs ++ ys) ≡ None) ↔ ((first_fault xs ≡ None) × (first_fault ys ≡ None))
both_pass xs ys =
    let split = no_more (first_fault xs) (first_fault ys) in
    let same = first_fault-append xs ys in
    (λ h. split.0 (sym same ∙ h), λ p. same ∙ split.1 p)

-- a check has no fault exactly if it has no cause
pub check_passes : (s : Source) (c : Option LoadCause) (steps : List LoadStep)
    → (first_fault (check s c ∷ steps) ≡ None) ↔ ((c ≡ None) × (first_fault steps ≡ None))
check_passes s None steps = (λ h. (refl, h), λ p. p.1)
check_passes s (Some c) steps = (λ h. cc, λ p. absurd (some_is_none c p.0))
  where
    some_is_none : (c : LoadCause) → Some c ≡ None → ⊥
    some_is_none c h = cc

pub warnings_pass : {X : Type 0} (w : List X → Warning) (xs : List X) → first_fault (warn_if_some w xs) ≡ None
warnings_pass w [] = refl
warnings_pass w (x ∷ xs) = refl

-- ---- causes

pub if_some_none : {X : Type 0} (cause : List X → LoadCause) (xs : List X) → (if_some cause xs ≡ None) ↔ (xs ≡ [])
if_some_none cause [] = (λ h. refl, λ h. refl)
if_some_none cause (x ∷ xs) = (λ h. cc, λ h. cc)

pub if_true_none : (cause : LoadCause) (b : Bool) → (if_true cause b ≡ None) ↔ (b ≡ false)
if_true_none cause true = (λ h. cc, λ h. cc)
if_true_none cause false = (λ h. refl, λ h. refl)

-- ---- lists

both_empty : {X : Type 0} (xs ys : List X) → (xs ++ ys ≡ []) ↔ ((xs ≡ []) × (ys ≡ []))
both_empty [] ys = (λ h. (refl, h), λ p. p.1)
both_empty (x ∷ xs) ys = (λ h. cc, λ p. cc)

pub none_of_both : {X : Type 0} (xs ys : List X) → (xs ++ ys ≡ []) ↔ ((xs ≡ []) × (ys ≡ []))
none_of_both xs ys = both_empty xs ys

-- facts of each element that are the same
pub each_same : {X : Type 0} (P Q : X → Type 0) → ((x : X) → P x ↔ Q x) → (xs : List X) → Each P xs ↔ Each Q xs
each_same P Q same [] = (λ h. h, λ h. h)
each_same P Q same (x ∷ xs) = iff_both (same x) (each_same P Q same xs)

pub each_both : {X : Type 0} (P Q : X → Type 0) (xs : List X) → Each (λ x. P x × Q x) xs ↔ (Each P xs × Each Q xs)
each_both P Q [] = (λ h. (tt, tt), λ h. tt)
each_both P Q (x ∷ xs) =
    let rest = each_both P Q xs in
    (λ h. ((h.0.0, (rest.0 h.1).0), (h.0.1, (rest.0 h.1).1)), λ h. ((h.0.0, h.1.0), rest.1 (h.0.1, h.1.1)))

pub each_append : {X : Type 0} (P : X → Type 0) (xs ys : List X) → Each P (xs ++ ys) ↔ (Each P xs × Each P ys)
each_append P [] ys = (λ h. (tt, h), λ p. p.1)
each_append P (x ∷ xs) ys =
    let rest = each_append P xs ys in
    (λ h. ((h.0, (rest.0 h.1).0), (rest.0 h.1).1), λ p. (p.0.0, rest.1 (p.0.1, p.1)))

pub each_map : {X Y : Type 0} (f : X → Y) (P : Y → Type 0) (xs : List X) → Each P (map f xs) ↔ Each (λ x. P (f x)) xs
each_map f P [] = (λ h. h, λ h. h)
each_map f P (x ∷ xs) = iff_both (λ h. h, λ h. h) (each_map f P xs)

-- what f gives for each element is nothing exactly if it gives nothing for any
pub flat_none : {X Y : Type 0} (f : X → List Y) (xs : List X) → (flat_map f xs ≡ []) ↔ Each (λ x. f x ≡ []) xs
flat_none f [] = (λ h. tt, λ h. refl)
flat_none f (x ∷ xs) = iff_trans (both_empty (f x) (flat_map f xs)) (iff_both (λ h. h, λ h. h) (flat_none f xs))

filtered_at : {X : Type 0} (p : X → Bool) (x : X) (xs : List X) (b : Bool) → p x ≡ b
    → (filter p xs ≡ []) ↔ Each (λ y. p y ≡ false) xs
    → (filter p (x ∷ xs) ≡ []) ↔ ((p x ≡ false) × Each (λ y. p y ≡ false) xs)
filtered_at p x xs true is rest = (λ h. absurd (some_kept (rw is at h)), λ q. absurd (false≢true (sym q.0 ∙ is)))
  where
    some_kept : x ∷ filter p xs ≡ [] → ⊥
    some_kept h = cc
filtered_at p x xs false is rest = (λ h. (is, rest.0 (rw is at h)), λ q. rw is (rest.1 q.1))

-- nothing passes a test
pub filter_none : {X : Type 0} (p : X → Bool) (xs : List X) → (filter p xs ≡ []) ↔ Each (λ x. p x ≡ false) xs
filter_none p [] = (λ h. tt, λ h. refl)
filter_none p (x ∷ xs) = filtered_at p x xs (p x) refl (filter_none p xs)

pub not_false : (b : Bool) → (not b ≡ false) ↔ IsTrue b
not_false true = (λ h. refl, λ h. refl)
not_false false = (λ h. sym h, λ h. sym h)

pub is_false : (b : Bool) → (b ≡ false) ↔ (¬ IsTrue b)
is_false true = (λ h t. false≢true (sym h), λ n. absurd (n refl))
is_false false = (λ h t. false≢true t, λ n. refl)
