-- The unknown keys of places and fields.
use Rattle.std.proofs.Common.{◌≡◌, ℕ, List, [], ◌++◌, Vec, Box, Global, Option, Some, None, refl, sym, ap, ◌∙◌}
use Rattle.std.proofs.lemmas.List.{map-append}
use Rattle.std.proofs.lemmas.Simd.{map-map}
use Rattle.nextest_tree.specs.declared.key.Key.{Key}
use Rattle.nextest_tree.specs.Key.{key_text}
use Rattle.nextest_tree.specs.Node.{Node, table, array, text, int, bool, opaque, Nodes, Entries, as_table, as_array}
use Rattle.nextest_tree.specs.Schema.{Fault, FaultCause, Schema, fields, map_of, items_of, Fields, below, field_unknown, others, others_faults, others_unknown, are_noted, are_refused, unknown, unknown_field}
use Rattle.nextest_tree.specs.Schema as schemas
use Rattle.nextest_shape.specs.declared.faults.across.Across.{Across}
use Rattle.nextest_shape.specs.declared.faults.across.AcrossItems.{AcrossItems}
use Rattle.nextest_shape.specs.declared.faults.across.Names.{Names}
use Rattle.nextest_shape.specs.declared.faults.place.Field.{Field}
use Rattle.nextest_shape.specs.declared.faults.place.Others.{Others}
use Rattle.nextest_shape.specs.declared.faults.place.Place as places
use Rattle.nextest_shape.specs.declared.faults.place.Place.{Place}
use Rattle.nextest_shape.specs.Faults.Found.{refused_at}
use Rattle.nextest_shape.specs.Faults.Places.{across_test, fields_view, items_test, names_test, others_view, place_view}
use Rattle.nextest_shape.proofs.faults.Views.{at_list, at_map, at_table}

-- the fault of a table that refuses a key
abbrev refused : List ℕ → Fault
refused p = record { path = p; cause = unknown_field }

-- one list after another
pub refused_more : (xs ys : List (List ℕ)) → refused_at (xs ++ ys) ≡ refused_at xs ++ refused_at ys
refused_more xs ys = map-append refused xs ys

-- the keys that a table notes are those that another one refuses
pub noted : (names : List Key) (p : List ℕ) (es : Entries)
    → others_faults are_refused names p es ≡ refused_at (others_unknown are_noted names p es)
noted names p es = sym (map-map refused (below p) (others names es))

-- the unknown keys below an entry
abbrev pub entry_unknown : Schema → List ℕ → List ℕ → Node → List (List ℕ)
entry_unknown s p k n = unknown s (below p k) n

-- the unknown keys at a field that is there
pub field_there : (k : Key) (f : List ℕ → Node → List (List ℕ)) (p q : List ℕ) (n : Node) (o : Option Node)
    → o ≡ Some n → q ≡ below p (key_text k) → f q n ≡ field_unknown k f p o
unfolding field_unknown
field_there k f p q n o is longer = ap (λ path. f path n) longer ∙ sym (ap (field_unknown k f p) is)

-- none at a field that is missing
pub field_without : (k : Key) (f : List ℕ → Node → List (List ℕ)) (p : List ℕ) (o : Option Node)
    → None ≡ o → [] ≡ field_unknown k f p o
unfolding field_unknown
field_without k f p None is = refl
field_without k f p (Some n) is = absurd (cc)

module _ (place : Place) (p : List ℕ) where
  other_table : (how : schemas.Others) (s : Schema) (fs : Fields) (across : Entries → Option FaultCause) (n : Node)
      → as_table n ≡ None → unknown s p n ≡ unknown (fields how s fs across) p n
  other_table how s fs across (table es) none = absurd (cc)
  other_table how s fs across (array ns) none = refl
  other_table how s fs across (text t) none = refl
  other_table how s fs across (int z) none = refl
  other_table how s fs across (bool b) none = refl
  other_table how s fs across opaque none = refl

  pub of_no_table : (how : Others) (other : Box Place Global) (fs : Vec (Field Place) Global) (across : Across)
      (n : Node) → place ≡ places.Table how other fs across → as_table n ≡ None
      → unknown (place_view other.value) p n ≡ unknown (place_view place) p n
  of_no_table how other fs across n is none =
      other_table (others_view how) (place_view other.value) (fields_view fs.items) (across_test across) n none
      ∙ at_table unknown place p how other fs across n is

  other_map : (test : List ℕ → Option FaultCause) (s : Schema) (n : Node) → as_table n ≡ None
      → [] ≡ unknown (map_of test s) p n
  other_map test s (table es) none = absurd (cc)
  other_map test s (array ns) none = refl
  other_map test s (text t) none = refl
  other_map test s (int z) none = refl
  other_map test s (bool b) none = refl
  other_map test s opaque none = refl

  pub of_no_map : (names : Names) (values : Box Place Global) (n : Node) → place ≡ places.Map names values
      → as_table n ≡ None → [] ≡ unknown (place_view place) p n
  of_no_map names values n is none =
      other_map (names_test names) (place_view values.value) n none ∙ at_map unknown place p names values n is

  other_list : (s items : Schema) (across : Nodes → Option FaultCause) (n : Node) → as_array n ≡ None
      → unknown s p n ≡ unknown (items_of s items across) p n
  other_list s items across (table es) none = refl
  other_list s items across (array ns) none = absurd (cc)
  other_list s items across (text t) none = refl
  other_list s items across (int z) none = refl
  other_list s items across (bool b) none = refl
  other_list s items across opaque none = refl

  pub of_no_list : (other items : Box Place Global) (across : AcrossItems) (n : Node)
      → place ≡ places.List other items across → as_array n ≡ None
      → unknown (place_view other.value) p n ≡ unknown (place_view place) p n
  of_no_list other items across n is none =
      other_list (place_view other.value) (place_view items.value) (items_test across) n none
      ∙ at_list unknown place p other items across n is
