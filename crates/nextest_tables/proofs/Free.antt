-- What a tree without faults is made of.
use Rattle.std.proofs.Common.{◌≡◌, ℕ, List, [], ◌∷◌, ◌++◌, Option, Some, Ordering, Less, Equal, Greater, refl}
use Rattle.std.specs.Cmp.Lexicographic.{slice_cmp}
use Rattle.std.specs.Ordering.{nat_cmp, match_ordering}
use Rattle.nextest_tree.specs.Key.{key_text}
use Rattle.nextest_tree.specs.Node.{Node, table, Entries, no_entries, entry, get}
use Rattle.nextest_tree.specs.Schema.{FaultCause, Schema, Fields, no_more, field, struct, map_of, below, at, each_entry, faults, fields_faults, field_faults}

-- the parts of a list that is empty
pub left_nil : {A : Type 0} (xs ys : List A) → xs ++ ys ≡ [] → xs ≡ []
left_nil [] ys h = refl
left_nil (x ∷ xs) ys h = cc

pub right_nil : {A : Type 0} (xs ys : List A) → xs ++ ys ≡ [] → ys ≡ []
right_nil [] ys h = h
right_nil (x ∷ xs) ys h = cc

-- none of the fields has a fault
abbrev pub AllFree : Fields → List ℕ → Entries → Type 0
AllFree no_more p es = Unit {0}
AllFree (field k must s fs) p es = (field_faults k (must es) (faults s) p (get (key_text k) es) ≡ []) × AllFree fs p es

all_free : (fs : Fields) (p : List ℕ) (es : Entries) → fields_faults fs p es ≡ [] → AllFree fs p es
all_free no_more p es h = tt
all_free (field k must s fs) p es h =
    let here = field_faults k (must es) (faults s) p (get (key_text k) es) in
    (left_nil here (fields_faults fs p es) h, all_free fs p es (right_nil here (fields_faults fs p es) h))

pub struct_free : (fs : Fields) (p : List ℕ) (es : Entries) → faults (struct fs) p (table es) ≡ [] → AllFree fs p es
struct_free fs p es h = all_free fs p es (left_nil (fields_faults fs p es) [] h)

-- what is at a key of a map has no fault
pub entry_free : (test : List ℕ → Option FaultCause) (s : Schema) (p k : List ℕ) (es : Entries) (n : Node)
    → faults (map_of test s) p (table es) ≡ [] → get k es ≡ Some n → (q : List ℕ) × (faults s q n ≡ [])
entry_free test s p k no_entries n h g = cc
entry_free test s p k (entry l m es) n h g =
    let here = at (below p l) (test l) ++ faults s (below p l) m in
    let rest = each_entry (λ k n. at (below p k) (test k) ++ faults s (below p k) n) es in
    let free : faults s (below p l) m ≡ [] =
    right_nil (at (below p l) (test l)) (faults s (below p l) m) (left_nil here rest h) in
    by_order (slice_cmp nat_cmp k l) g free (entry_free test s p k es n (right_nil here rest h))
  where
    by_order : (o : Ordering) → match_ordering o (get k es) (Some m) (get k es) ≡ Some n
        → faults s (below p l) m ≡ [] → (get k es ≡ Some n → (q : List ℕ) × (faults s q n ≡ []))
        → (q : List ℕ) × (faults s q n ≡ [])
    by_order Less g free more = more g
    by_order Equal g free more = let same : m ≡ n = cc in (below p l, rw (← same) free)
    by_order Greater g free more = more g
