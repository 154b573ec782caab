-- Sets and maps of marks, and one more.
use Rattle.std.proofs.Common.{◌≡◌, ℕ, Bool, true, false, cond, List, [], Option, Some, None, option_map, String, string_bytes, refl, ap, ◌∙◌}
use Rattle.std.specs.declared.alloc.Global.{Global}
use Rattle.std.proofs.Common.{◌++◌, ◌∷◌, sym}
use Rattle.std.proofs.lemmas.List.Sums.{fold_push}
use Rattle.std.specs.Prelude.{decimal}
use Rattle.nextest_places.specs.Spans.Paths.{PathStep}
use Rattle.rinqebo_faults.specs.Edits.{mark_below, mark_of}
use Rattle.std.specs.BTreeMap as trees
use Rattle.std.specs.BTreeSet as sets
use Rattle.std.specs.Str.{bytes_eq}
use Rattle.std.specs.String.{string_cmp}
use Rattle.std.proofs.lemmas.Map.Text.{btree_map_updates_text, btree_set_updates_text}

-- a set without keys has no text
pub none_in : (set : sets.BTreeSet (String Global)) → sets.IsEmpty set → (name : List ℕ)
    → sets.contains_text set name ≡ false
none_in set none name = ap (λ keys. sets.contains_text {Y = Global} (record { keys = keys }) name) none

-- a map without keys has nothing at a text
pub none_at : {X Y : Type 0} (view : X → Y) (map : trees.BTreeMap (String Global) X)
    → trees.IsEmpty map → (name : List ℕ) → option_map view (trees.get_by_text map name) ≡ None
none_at view map none name = let e : map.entries ≡ [] = none in rw e refl

-- one text more is in a set
pub one_more : (old new : sets.BTreeSet (String Global)) (key : String Global) (text : List ℕ)
    → string_bytes key ≡ text → sets.Updates string_cmp old new key true → (other : List ℕ)
    → sets.contains_text new other ≡ cond (bytes_eq text other) true (sets.contains_text old other)
one_more old new key text same updates other =
    rw (← same) (btree_set_updates_text (string_bytes key) old new true updates other)

-- what is seen of a value, at a key that is set
seen_update : {X Y : Type 0} (view : X → Y) (b : Bool) (x : X) (o : Option X)
    → option_map view (cond b (Some x) o) ≡ cond b (Some (view x)) (option_map view o)
seen_update view true x o = refl
seen_update view false x o = refl

-- one value more is in a map
pub one_set : {X Y : Type 0} (view : X → Y) (old new : trees.BTreeMap (String Global) X)
    (key : String Global) (text : List ℕ) (value : X)
    → string_bytes key ≡ text → trees.Updates string_cmp old new key (Some value)
    → (other : List ℕ) → option_map view (trees.get_by_text new other)
    ≡ cond (bytes_eq text other) (Some (view value)) (option_map view (trees.get_by_text old other))
one_set view old new key text value same updates other =
    rw (← same) (ap (option_map view) (btree_map_updates_text (string_bytes key) old new (Some value) updates other)
    ∙ seen_update view (bytes_eq (string_bytes key) other) value (trees.get_by_text old other))

-- a mark of a path with one more step
pub mark_more : (place : ℕ) (path : List PathStep) (step : PathStep)
    → mark_below (mark_of place path) step ≡ mark_of place (path ++ step ∷ [])
unfolding mark_of
mark_more place path step = sym (fold_push mark_below (decimal place) path step)
