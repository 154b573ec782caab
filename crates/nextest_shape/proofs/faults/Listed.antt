-- The faults of keys, fields, entries and items, one after another.
use Rattle.std.proofs.Common.{◌≡◌, ◌<◌, ◌+◌, ℕ, List, [], ◌∷◌, ◌++◌, Bool, false, not, cond, Option, Some, None, map, filter, length, drop, get_or, refl, sym, ap, ◌∙◌}
use Rattle.std.proofs.lemmas.List.{drop_more}
use Rattle.std.specs.Fmt.{decimal}
use Rattle.nextest_tree.specs.declared.key.Key.{Key}
use Rattle.nextest_tree.specs.declared.tree.Tree.{Tree}
use Rattle.nextest_tree.specs.Key.{key_text}
use Rattle.nextest_tree.specs.Node.{Node}
use Rattle.nextest_tree.specs.Schema.{Fault, FaultCause, Schema, field, unknown_field, missing, at, below, each_item, faults, field_faults, is_one_of}
use Rattle.nextest_tree.specs.View.{tree_view, nodes_view}
use Rattle.nextest_shape.specs.declared.faults.place.Field.{Field}
use Rattle.nextest_shape.specs.declared.faults.place.Place.{Place}
use Rattle.nextest_shape.specs.Faults.Places.{fields_view, need_test, place_view}

-- the faults of those of some keys that are not among the names
abbrev pub unknown_keys : List Key → List ℕ → List (List ℕ) → List Fault
unknown_keys names p ks =
    map (λ k. record { path = below p k; cause = unknown_field })
    (filter (λ k. not (is_one_of (map key_text names) k)) ks)

-- a key that is not among the names
pub unknown_key : (names : List Key) (p k : List ℕ) (ks : List (List ℕ)) → is_one_of (map key_text names) k ≡ false
    → unknown_keys names p (k ∷ ks) ≡ record { path = below p k; cause = unknown_field } ∷ unknown_keys names p ks
unknown_key names p k ks is = rw is refl

-- the faults of the name and of the value of an entry
abbrev pub entry_faults : (List ℕ → Option FaultCause) → Schema → List ℕ → List ℕ → Node → List Fault
entry_faults test s p k n = at (below p k) (test k) ++ faults s (below p k) n

-- one item, and those after it
pub items_next : {A : Type 0} (f : List ℕ → Node → List A) (p : List ℕ) (items : List Tree) (i : ℕ) (item : Tree)
    → i < length items → item ≡ get_or items i item
    → each_item f p i (nodes_view (drop i items))
    ≡ f (below p (decimal i)) (tree_view item) ++ each_item f p (i + 1) (nodes_view (drop (i + 1) items))
items_next f p items i item within is =
    let here : drop i items ≡ item ∷ drop (i + 1) items =
    drop_more items i item within ∙ ap (λ t. t ∷ drop (i + 1) items) (sym is) in
    ap (λ ts. each_item f p i (nodes_view ts)) here

-- one field, and those after it
pub fields_next : (fs : List (Field Place)) (i : ℕ) (f : Field Place) → i < length fs → f ≡ get_or fs i f
    → fields_view (drop i fs) ≡ field f.key (need_test f.need) (place_view f.place) (fields_view (drop (i + 1) fs))
fields_next fs i f within is = ap fields_view (drop_more fs i f within ∙ ap (λ g. g ∷ drop (i + 1) fs) (sym is))

-- the faults at a field that is there
pub field_there : (k : Key) (must : Bool) (f : List ℕ → Node → List Fault) (p q : List ℕ) (n : Node) (o : Option Node)
    → o ≡ Some n → q ≡ below p (key_text k) → f q n ≡ field_faults k must f p o
unfolding field_faults
field_there k must f p q n o is longer =
    ap (λ path. f path n) longer ∙ sym (ap (field_faults k must f p) is)

-- the faults at a field that is missing
pub field_without : (k : Key) (must : Bool) (f : List ℕ → Node → List Fault) (p : List ℕ) (o : Option Node)
    → None ≡ o → cond must (at p (Some (missing (key_text k)))) [] ≡ field_faults k must f p o
unfolding field_faults
field_without k must f p None is = refl
field_without k must f p (Some n) is = absurd (cc)
