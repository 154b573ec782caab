-- What each profile writes, and what is wrong with it.
use Rattle.std.proofs.Common.{◌≡◌, ◌⊎◌, inl, inr, List, [], ◌∷◌, Bool, true, false, not, cond, filter, Ordering, Less, Equal, Greater, Option, None, Some, refl, sym, ◌∙◌, subst, nat_cmp}
use Rattle.std.specs.BTreeMap.{is_at}
use Rattle.std.specs.Cmp.Lexicographic.{slice_cmp}
use Rattle.std.specs.List.{filter_map}
use Rattle.std.specs.List.Sorted.{IsStrictlySortedBy}
use Rattle.std.specs.Map.{keys_of, lookup}
use Rattle.std.specs.Option.{option_and_then, unwrap_or}
use Rattle.std.specs.Ordering.{is_eq}
use Rattle.std.specs.Str.{bytes_eq}
use Rattle.std.proofs.lemmas.Bool.{cases_Bool}
use Rattle.std.proofs.lemmas.Cmp.{nat_list_cmp_total, tied_itself}
use Rattle.std.proofs.lemmas.Map.Keys.{sorted_head, sorted_tail}
use Rattle.std.proofs.lemmas.Map.Lookups.{exact_bytes}
use Rattle.nextest_inheritance.specs.Names.{Name, is_base, is_default, default_first}
use Rattle.nextest_inheritance.specs.Parents.{WrittenParents, parents_in}
use Rattle.nextest_inheritance.specs.Faults.{ParentFault, base_with_parent, own_parent, unknown_parent, parent_fault, parent_faults}
use Rattle.nextest_inheritance.proofs.Members.{In, here, there, all_at, in_front, in_back, in_either}
use Rattle.nextest_inheritance.proofs.Listing.{in_filter, not_itself}

-- A profile that writes a parent.
pub record Writes (es : WrittenParents) (name parent : Name) : Type 0 where
  pub entry : Name × Option Name
  pub within : In entry es
  pub by : entry.0 ≡ name
  pub is : entry.1 ≡ Some parent

writes_at : (name parent : Name) (e : Name × Option Name) (es : WrittenParents) (order : Ordering)
    → slice_cmp nat_cmp name e.0 ≡ order
    → unwrap_or (cond (is_eq order) (Some e.1) (lookup (is_at (slice_cmp nat_cmp name)) es)) None ≡ Some parent
    → (parents_in es name ≡ Some parent → Writes es name parent) → Writes (e ∷ es) name parent
writes_at name parent e es Equal order is later =
    record { entry = e; within = here; by = sym (exact_bytes name e.0 order); is = is }
writes_at name parent e es Less order is later = let w = later is in
    record { entry = w.entry; within = there w.within; by = w.by; is = w.is }
writes_at name parent e es Greater order is later = let w = later is in
    record { entry = w.entry; within = there w.within; by = w.by; is = w.is }

-- a parent is written by a profile
pub writes : (es : WrittenParents) (name parent : Name) → parents_in es name ≡ Some parent → Writes es name parent
writes [] name parent is = cc
writes (e ∷ es) name parent is = writes_at name parent e es (slice_cmp nat_cmp name e.0) refl is (writes es name parent)

-- what a profile writes is its parent, where none has the name of another
pub written_at : (es : WrittenParents) → IsStrictlySortedBy (slice_cmp nat_cmp) (keys_of es)
    → (e : Name × Option Name) → In e es → parents_in es e.0 ≡ e.1
written_at [] sorted e i = elim i [ ]
written_at (d ∷ es) sorted e here = rw (tied_itself nat_list_cmp_total d.0) refl
written_at (d ∷ es) sorted e (there i) =
    let below : slice_cmp nat_cmp d.0 e.0 ≡ Less =
    all_at (λ key. slice_cmp nat_cmp d.0 key ≡ Less) e.0 (keys_of es)
    (sorted_head (slice_cmp nat_cmp) d.0 (keys_of es) sorted) (in_keys e es i) in
    apart d e es (slice_cmp nat_cmp e.0 d.0) refl below
    (written_at es (sorted_tail (slice_cmp nat_cmp) d.0 (keys_of es) sorted) e i)
  where
    in_keys : (e : Name × Option Name) (es : WrittenParents) → In e es → In e.0 (keys_of es)
    in_keys e l here = here
    in_keys e l (there {xs = es} i) = there (in_keys e es i)

    apart : (d e : Name × Option Name) (es : WrittenParents) (order : Ordering)
        → slice_cmp nat_cmp e.0 d.0 ≡ order → slice_cmp nat_cmp d.0 e.0 ≡ Less → parents_in es e.0 ≡ e.1
        → unwrap_or (cond (is_eq order) (Some d.1) (lookup (is_at (slice_cmp nat_cmp e.0)) es)) None ≡ e.1
    apart d e es Equal order below later =
        absurd (not_itself (slice_cmp nat_cmp) nat_list_cmp_total d.0 e.0 below (sym (exact_bytes e.0 d.0 order)))
    apart d e es Less order below later = later
    apart d e es Greater order below later = later

-- `default` first: the same profiles
kept_more : {X : Type 0} (x y : X) (ys : List X) (b : Bool) → In x ys → In x (cond b (y ∷ ys) ys)
kept_more x y ys true i = there i
kept_more x y ys false i = i

kept : {X : Type 0} (test : X → Bool) (x : X) (xs : List X) → In x xs → test x ≡ true → In x (filter test xs)
kept test x l (here {xs = xs}) is = rw is here
kept test x l (there {y = y} {xs = xs} i) is = kept_more x y (filter test xs) (test y) (kept test x xs i is)

from_kept : {X : Type 0} (x y : X) (ys xs : List X) (b : Bool) → (In x ys → In x xs)
    → In x (cond b (y ∷ ys) ys) → In x (y ∷ xs)
from_kept x y ys xs true later here = here
from_kept x y ys xs true later (there i) = there (later i)
from_kept x y ys xs false later i = there (later i)

kept_from : {X : Type 0} (test : X → Bool) (x : X) (xs : List X) → In x (filter test xs) → In x xs
kept_from test x [] i = i
kept_from test x (y ∷ xs) i = from_kept x y (filter test xs) xs (test y) (kept_from test x xs) i

pub in_default_first : (e : Name × Option Name) (es : WrittenParents) → In e es → In e (default_first es)
in_default_first e es i =
    elim (cases_Bool (is_default e.0)) [
      | inl is ↦ in_front e (filter (λ p. is_default p.0) es) (filter (λ p. not (is_default p.0)) es)
          (kept (λ p. is_default p.0) e es i is)
      | inr other ↦ in_back e (filter (λ p. is_default p.0) es) (filter (λ p. not (is_default p.0)) es)
          (kept (λ p. not (is_default p.0)) e es i (rw other refl))
    ]

pub from_default_first : (e : Name × Option Name) (es : WrittenParents) → In e (default_first es) → In e es
from_default_first e es i =
    elim (in_either e (filter (λ p. is_default p.0) es) (filter (λ p. not (is_default p.0)) es) i) [
      | inl j ↦ kept_from (λ p. is_default p.0) e es j
      | inr j ↦ kept_from (λ p. not (is_default p.0)) e es j
    ]

-- the fault of a profile is among the faults
pub fault_in : (known : Name → Bool) (es : WrittenParents) (name parent : Name) (fault : ParentFault)
    → parents_in es name ≡ Some parent → parent_fault known name parent ≡ Some fault
    → In fault (parent_faults known es)
fault_in known es name parent fault is wrong =
    let w = writes es name parent is in
    in_filter (λ p. option_and_then (parent_fault known p.0) p.1) w.entry fault (default_first es)
    (in_default_first w.entry es w.within)
    (rw (w.is, w.by) wrong)

-- Nothing is wrong with a parent.
pub record IsSoundParent (known : Name → Bool) (name parent : Name) : Type 0 where
  pub plain : is_base name ≡ false
  pub other : bytes_eq name parent ≡ false
  pub is_known : known parent ≡ true

fault_or : (known : Name → Bool) (name parent : Name) (base same found : Bool) → is_base name ≡ base
    → bytes_eq name parent ≡ same → known parent ≡ found
    → IsSoundParent known name parent ⊎ ((fault : ParentFault) × (parent_fault known name parent ≡ Some fault))
fault_or known name parent true same found is eq is_known = inr (base_with_parent name, rw is refl)
fault_or known name parent false true found is eq is_known = inr (own_parent name, rw (is, eq) refl)
fault_or known name parent false false false is eq is_known =
    inr (unknown_parent name parent, rw (is, eq, is_known) refl)
fault_or known name parent false false true is eq is_known =
    inl (record { plain = is; other = eq; is_known = is_known })

-- where there is no fault, each parent is sound
pub sound_parent : (known : Name → Bool) (es : WrittenParents) → parent_faults known es ≡ []
    → (name parent : Name) → parents_in es name ≡ Some parent → IsSoundParent known name parent
sound_parent known es none name parent is =
    elim (fault_or known name parent (is_base name) (bytes_eq name parent) (known parent) refl refl refl) [
      | inl sound ↦ sound
      | inr wrong ↦ absurd (nowhere wrong.0
          (let P : List ParentFault → Type 0 = In wrong.0 in
          subst P none (fault_in known es name parent wrong.0 is wrong.1)))
    ]
  where
    nowhere : (fault : ParentFault) → In fault [] → ⊥
    nowhere fault i = elim i [ ]

-- and where each is sound, there is no fault
no_fault : (known : Name → Bool) (name parent : Name) → IsSoundParent known name parent
    → parent_fault known name parent ≡ None
no_fault known name parent s = rw (s.plain, s.other, s.is_known) refl

nothing_kept : {X Y : Type 0} (f : X → Option Y) (xs : List X) → ((x : X) → In x xs → f x ≡ None) → filter_map f xs ≡ []
nothing_kept f [] each = refl
nothing_kept f (x ∷ xs) each = rw (each x here) (nothing_kept f xs (λ y i. each y (there i)))

pub no_faults : (known : Name → Bool) (es : WrittenParents) → IsStrictlySortedBy (slice_cmp nat_cmp) (keys_of es)
    → ((name parent : Name) → parents_in es name ≡ Some parent → IsSoundParent known name parent)
    → parent_faults known es ≡ []
no_faults known es sorted each =
    nothing_kept (λ p. option_and_then (parent_fault known p.0) p.1) (default_first es)
    (λ e i. at e e.1 refl (from_default_first e es i))
  where
    at : (e : Name × Option Name) (o : Option Name) → e.1 ≡ o → In e es
        → option_and_then (parent_fault known e.0) o ≡ None
    at e None is i = refl
    at e (Some parent) is i = no_fault known e.0 parent (each e.0 parent (written_at es sorted e i ∙ is))
