-- The keys of a set of texts are those texts in the order of their bytes.
use Rattle.std.proofs.Common.{◌≡◌, inl, inr, ℕ, List, [], ◌∷◌, length, arith, map, Bool, true, false, ◌||◌, String, Global, string_bytes, Ordering, Less, Equal, Greater, nat_cmp, is_eq, refl, sym, ap, ◌∙◌}
use Rattle.std.specs.BTreeMap.{is_at}
use Rattle.std.specs.BTreeSet.{BTreeSet, contains_text}
use Rattle.std.specs.Cmp.{tied_itself}
use Rattle.std.specs.Cmp.Lexicographic.{slice_cmp}
use Rattle.std.specs.List.{AllByRecursion, list_any}
use Rattle.std.specs.List.Sorted.{IsStrictlySortedBy}
use Rattle.std.specs.Ordering.{match_ordering}
use Rattle.std.specs.Str.{bytes_eq}
use Rattle.std.specs.String.{string_cmp}
use Rattle.std.proofs.lemmas.Bool.{or_cases}
use Rattle.std.proofs.lemmas.Cmp.{nat_list_cmp_total}
use Rattle.std.proofs.lemmas.Map.Lookups.{exact_bytes}
use Rattle.std.proofs.lemmas.Slice.Eq.{bytes_eq-Decides}
use Rattle.nextest_documents.proofs.Laying.{cmp, turned}
use Rattle.nextest_inheritance.proofs.Listing.{ascending_one}
use Rattle.nextest_inheritance.proofs.Members.{In, here, there, here_at}
use Rattle.nextest_rules.specs.Steps.{warn_if_some}
use Rattle.nextest_sources.specs.Steps.{warn}
use Rattle.nextest_sources.specs.Warnings.{Warning}
use Rattle.nextest_tree.specs.Schema.{is_one_of}
use Rattle.nextest_load.specs.Steps.{insert_text, in_byte_order}

-- a text comes before all of these
abbrev IsBelow : List ℕ → List (List ℕ) → Type 0
IsBelow t ts = AllByRecursion (λ u. cmp t u ≡ Less) ts

below_lower : (t u : List ℕ) (ts : List (List ℕ)) → cmp t u ≡ Less → IsBelow u ts → IsBelow t ts
below_lower t u [] h b = tt
below_lower t u (v ∷ ts) h b = (nat_list_cmp_total.trans t u v h b.0, below_lower t u ts h b.1)

below_at : (o : Ordering) (s t u : List ℕ) (ts : List (List ℕ)) → cmp s t ≡ Less → IsBelow s (u ∷ ts)
    → IsBelow s (insert_text t ts)
    → IsBelow s (match_ordering o (t ∷ u ∷ ts) (u ∷ ts) (u ∷ insert_text t ts))
below_at Less s t u ts h b ih = (h, b)
below_at Equal s t u ts h b ih = b
below_at Greater s t u ts h b ih = (b.0, ih)

below_insert : (s t : List ℕ) (ts : List (List ℕ)) → cmp s t ≡ Less → IsBelow s ts → IsBelow s (insert_text t ts)
below_insert s t [] h b = (h, tt)
below_insert s t (u ∷ ts) h b = below_at (cmp t u) s t u ts h b (below_insert s t ts h b.1)

insert_at : (o : Ordering) (t u : List ℕ) (ts : List (List ℕ)) → cmp t u ≡ o → IsStrictlySortedBy cmp (u ∷ ts)
    → IsStrictlySortedBy cmp (insert_text t ts)
    → IsStrictlySortedBy cmp (match_ordering o (t ∷ u ∷ ts) (u ∷ ts) (u ∷ insert_text t ts))
unfolding IsStrictlySortedBy
insert_at Less t u ts is s ih = ((is, below_lower t u ts is s.0), s)
insert_at Equal t u ts is s ih = s
insert_at Greater t u ts is s ih = (below_insert u t ts (turned t u Greater is) s.0, ih)

inserted : (t : List ℕ) (ts : List (List ℕ)) → IsStrictlySortedBy cmp ts → IsStrictlySortedBy cmp (insert_text t ts)
unfolding IsStrictlySortedBy
inserted t [] s = (tt, tt)
inserted t (u ∷ ts) s = insert_at (cmp t u) t u ts refl s (inserted t ts s.1)

ordered : (ts : List (List ℕ)) → IsStrictlySortedBy cmp (in_byte_order ts)
unfolding IsStrictlySortedBy
ordered [] = tt
ordered (t ∷ ts) = inserted t (in_byte_order ts) (ordered ts)

to_insert_at : (o : Ordering) (t u z : List ℕ) (ts : List (List ℕ)) → cmp t u ≡ o → In z (t ∷ u ∷ ts)
    → (In z (t ∷ ts) → In z (insert_text t ts))
    → In z (match_ordering o (t ∷ u ∷ ts) (u ∷ ts) (u ∷ insert_text t ts))
to_insert_at Less t u z ts is i ih = i
to_insert_at Equal t u z ts is here ih = here_at t u ts (exact_bytes t u is)
to_insert_at Equal t u z ts is (there i) ih = i
to_insert_at Greater t u z ts is here ih = there (ih here)
to_insert_at Greater t u z ts is (there here) ih = here
to_insert_at Greater t u z ts is (there (there i)) ih = there (ih (there i))

to_insert : (t z : List ℕ) (ts : List (List ℕ)) → In z (t ∷ ts) → In z (insert_text t ts)
to_insert t z [] i = i
to_insert t z (u ∷ ts) here = to_insert_at (cmp t u) t u t ts refl here (to_insert t t ts)
to_insert t z (u ∷ ts) (there i) = to_insert_at (cmp t u) t u z ts refl (there i) (to_insert t z ts)

swapped : (t u z : List ℕ) (ts : List (List ℕ)) → In z (t ∷ ts) → In z (t ∷ u ∷ ts)
swapped t u z ts here = here
swapped t u z ts (there i) = there (there i)

from_insert_at : (o : Ordering) (t u z : List ℕ) (ts : List (List ℕ)) → (In z (insert_text t ts) → In z (t ∷ ts))
    → In z (match_ordering o (t ∷ u ∷ ts) (u ∷ ts) (u ∷ insert_text t ts)) → In z (t ∷ u ∷ ts)
from_insert_at Less t u z ts ih i = i
from_insert_at Equal t u z ts ih i = there i
from_insert_at Greater t u z ts ih here = there here
from_insert_at Greater t u z ts ih (there i) = swapped t u z ts (ih i)

from_insert : (t z : List ℕ) (ts : List (List ℕ)) → In z (insert_text t ts) → In z (t ∷ ts)
from_insert t z [] i = i
from_insert t z (u ∷ ts) i = from_insert_at (cmp t u) t u z ts (from_insert t z ts) i

to_order : (z : List ℕ) (ts : List (List ℕ)) → In z ts → In z (in_byte_order ts)
to_order z [] i = elim i [ ]
to_order z (t ∷ ts) here = to_insert t z (in_byte_order ts) here
to_order z (t ∷ ts) (there i) = to_insert t z (in_byte_order ts) (there (to_order z ts i))

in_rest : (t z : List ℕ) (ts us : List (List ℕ)) → (In z ts → In z us) → In z (t ∷ ts) → In z (t ∷ us)
in_rest t z ts us f here = here
in_rest t z ts us f (there i) = there (f i)

from_order : (z : List ℕ) (ts : List (List ℕ)) → In z (in_byte_order ts) → In z ts
from_order z [] i = i
from_order z (t ∷ ts) i = in_rest t z (in_byte_order ts) ts (from_order z ts) (from_insert t z (in_byte_order ts) i)

-- a text is one of some exactly if it is among them
pub one_in : (z : List ℕ) (ts : List (List ℕ)) → is_one_of ts z ≡ true → In z ts
one_in z [] h = cc
one_in z (t ∷ ts) h =
    elim (or_cases (bytes_eq t z) (is_one_of ts z) h) [
      | inl same ↦ here_at z t ts (sym ((bytes_eq-Decides t z).0 same))
      | inr more ↦ there (one_in z ts more)
    ]

pub in_one : (z : List ℕ) (ts : List (List ℕ)) → In z ts → is_one_of ts z ≡ true
in_one z [] i = elim i [ ]
in_one z (t ∷ ts) here = rw ((bytes_eq-Decides t t).1 refl) refl
in_one z (t ∷ ts) (there i) = rw (in_one z ts i) (or_true (bytes_eq t z))
  where
    or_true : (b : Bool) → (b || true) ≡ true
    or_true true = refl
    or_true false = refl

equal_from : (o : Ordering) → is_eq o ≡ true → o ≡ Equal
equal_from Less h = cc
equal_from Equal h = refl
equal_from Greater h = cc

-- a set has a text exactly if the text is that of a key
set_in : (z : List ℕ) (ks : List (String Global))
    → list_any (is_at (λ k. slice_cmp nat_cmp z (string_bytes k))) ks ≡ true → In z (map string_bytes ks)
set_in z [] h = cc
set_in z (k ∷ ks) h =
    elim (or_cases (is_eq (slice_cmp nat_cmp z (string_bytes k)))
    (list_any (is_at (λ k. slice_cmp nat_cmp z (string_bytes k))) ks) h) [
      | inl same ↦ here_at z (string_bytes k) (map string_bytes ks) (exact_bytes z (string_bytes k) (equal_from _ same))
      | inr more ↦ there (set_in z ks more)
    ]

or_second : (a b : Bool) → b ≡ true → (a || b) ≡ true
or_second true b h = refl
or_second false b h = h

in_set : (z : List ℕ) (ts : List (List ℕ)) (ks : List (String Global)) → ts ≡ map string_bytes ks → In z ts
    → list_any (is_at (λ k. slice_cmp nat_cmp z (string_bytes k))) ks ≡ true
in_set z [] ks e i = elim i [ ]
in_set z (t ∷ ts) [] e i = cc
in_set z (t ∷ ts) (k ∷ ks) e here =
    let same : t ≡ string_bytes k = cc in
    rw (← same, tied_itself nat_list_cmp_total t) refl
in_set z (t ∷ ts) (k ∷ ks) e (there i) =
    let rest : ts ≡ map string_bytes ks = cc in
    or_second (is_eq (slice_cmp nat_cmp z (string_bytes k))) _ (in_set z ts ks rest i)

below_texts : (k : String Global) (ks : List (String Global)) → AllByRecursion (λ y. string_cmp k y ≡ Less) ks
    → IsBelow (string_bytes k) (map string_bytes ks)
below_texts k [] h = tt
below_texts k (l ∷ ks) h = (h.0, below_texts k ks h.1)

texts_ascend : (ks : List (String Global)) → IsStrictlySortedBy string_cmp ks
    → IsStrictlySortedBy cmp (map string_bytes ks)
unfolding IsStrictlySortedBy
texts_ascend [] h = tt
texts_ascend (k ∷ ks) h = (below_texts k ks h.0, texts_ascend ks h.1)

-- the keys of a set that has the same texts are these texts in the order of their bytes
pub keys_in_order : (set : BTreeSet (String Global)) (all : List (List ℕ))
    → IsStrictlySortedBy string_cmp set.keys → ((q : List ℕ) → contains_text set q ≡ is_one_of all q)
    → map string_bytes set.keys ≡ in_byte_order all
keys_in_order set all sorted same =
    ascending_one cmp nat_list_cmp_total (map string_bytes set.keys) (in_byte_order all)
    (texts_ascend set.keys sorted) (ordered all)
    (λ z i. to_order z all (one_in z all (sym (same z) ∙ in_set z (map string_bytes set.keys) set.keys refl i)))
    (λ z i. set_in z set.keys (same z ∙ in_one z all (from_order z all i)))

-- an empty set tells of nothing
pub nothing_told : (warning : List (List ℕ) → Warning) (set : BTreeSet (String Global)) (all : List (List ℕ))
    → IsStrictlySortedBy string_cmp set.keys → ((q : List ℕ) → contains_text set q ≡ is_one_of all q)
    → length set.keys ≡ 0 → warn_if_some warning (in_byte_order all) ≡ []
nothing_told warning set all sorted same empty = by set.keys refl empty
  where
    by : (ks : List (String Global)) → set.keys ≡ ks → length ks ≡ 0 → warn_if_some warning (in_byte_order all) ≡ []
    by [] is none = ap (warn_if_some warning) (sym (keys_in_order set all sorted same) ∙ ap (map string_bytes) is)
    by (k ∷ ks) is none = absurd (omega (arith, none))

-- any other tells of its texts
pub texts_told : (warning : List (List ℕ) → Warning) (set : BTreeSet (String Global)) (all : List (List ℕ))
    → IsStrictlySortedBy string_cmp set.keys → ((q : List ℕ) → contains_text set q ≡ is_one_of all q)
    → (length set.keys ≡ 0 → ⊥)
    → warn_if_some warning (in_byte_order all) ≡ warn (warning (map string_bytes set.keys)) ∷ []
texts_told warning set all sorted same some = by set.keys refl some
  where
    by : (ks : List (String Global)) → set.keys ≡ ks → (length ks ≡ 0 → ⊥)
        → warn_if_some warning (in_byte_order all) ≡ warn (warning (map string_bytes set.keys)) ∷ []
    by [] is none = absurd (none refl)
    by (k ∷ ks) is none = ap (warn_if_some warning)
        (sym (keys_in_order set all sorted same) ∙ ap (map string_bytes) is)
        ∙ ap (λ l. warn (warning (map string_bytes l)) ∷ []) (sym is)
