-- Reading in steps, and what a walk has noted.
use Rattle.std.proofs.Common.{◌≡◌, ℕ, List, [], ◌∷◌, ◌++◌, Bool, true, false, ◌||◌, Option, Some, None, option_map, unwrap_or, Result, Ok, Err, String, Global, string_bytes, refl, sym, ap, ◌∙◌, cond, map, filter, not, ◌+◌, ◌≤◌, length, drop, take, get_or, codes, subst, append_assoc, arith}
use Rattle.std.proofs.lemmas.Grind.{common_steps}
use Rattle.std.proofs.lemmas.List.{append-nil, length-append}
use Rattle.std.proofs.Math.Seq.{take-append_seam, get_or-append_seam}
use Rattle.std.specs.String.Boundary.{IsSplitPoint}
use Rattle.nextest_tree.specs.declared.tree.Tree.{Tree}
use Rattle.nextest_tree.specs.View.{tree_view, nodes_view}
use Rattle.std.specs.BTreeSet.{BTreeSet, contains_text, Updates}
use Rattle.std.specs.String.{string_cmp}
use Rattle.std.specs.Str.{bytes_eq}
use Rattle.std.proofs.Math.Bool.{or-false}
use Rattle.std.proofs.lemmas.Map.Text.{btree_set_updates_text}
use Rattle.std.proofs.lemmas.List.Folds.{list_any-append}
use Rattle.nextest_tree.specs.declared.key.Key.{Key}
use Rattle.nextest_tree.specs.Node.{no_entries, entry, Node, Entries, table, array, Nodes, no_nodes, node, get}
use Rattle.std.specs.Fmt.{decimal}
use Rattle.nextest_tree.specs.Key.{key_text}
use Rattle.nextest_tree.specs.Leaf.{leaf_at, leaf_or}
use Rattle.nextest_tree.specs.Schema.{at as at_path, FaultCause, fields, Fault, missing, unknown_field, first, is_one_of, Schema, Fields, no_more, field, below, others, are_noted, are_refused, others_faults, names_of, faults, unknown, fields_faults, fields_unknown, any, append_fields, field_faults, field_unknown, items_of, list_of, each_item, map_of, each_entry, struct, closed_struct}
use Rattle.nextest_tree.specs.Reads.{ReadState, noting, inside, back_at, outcome, reading, reading_field, reading_fields, test_outcome, IsList, IsOptional, IsDefaulted, ◌>>=◌}
use Rattle.nextest_tree.specs.ReadSteps.{noting_others, refusing_others, reading_below, reading_items, reading_closed, reading_entry, reading_entries}

either : (a b c : Bool) → ((a || b) || c) ≡ (a || (b || c))
either true b c = refl
either false b c = refl

-- nothing noted, and one list of paths after another
pub noting_none : (at : ReadState) → noting [] at ≡ at
noting_none at = λ i. record { path = at.path; is_noted = λ q. or-false (at.is_noted q) i }

noting_twice : (us vs : List (List ℕ)) (at : ReadState) → noting vs (noting us at) ≡ noting (us ++ vs) at
noting_twice us vs at =
    let same : (q : List ℕ) → ((at.is_noted q || is_one_of us q) || is_one_of vs q)
    ≡ (at.is_noted q || is_one_of (us ++ vs) q) =
    λ q. either (at.is_noted q) (is_one_of us q) (is_one_of vs q)
    ∙ ap (λ t. at.is_noted q || t) (sym (list_any-append (λ name. bytes_eq name q) us vs)) in
    λ i. record { path = at.path; is_noted = λ q. same q i }

outcome_twice : (ys : List Fault) (us vs : List (List ℕ)) (at : ReadState)
    → outcome ys vs (noting us at) ≡ outcome ys (us ++ vs) at
outcome_twice [] us vs at = ap (λ s. Ok s) (noting_twice us vs at)
outcome_twice (y ∷ ys) us vs at = refl

-- one after another
outcome_then : (xs ys : List Fault) (us vs : List (List ℕ)) (at : ReadState)
    (next : ReadState → Result ReadState Fault) → next (noting us at) ≡ outcome ys vs (noting us at)
    → (outcome xs us at >>= next) ≡ outcome (xs ++ ys) (us ++ vs) at
outcome_then [] ys us vs at next h = h ∙ outcome_twice ys us vs at
outcome_then (x ∷ xs) ys us vs at next h = refl

-- reading fields in order meets the first of their faults
pub reading_fields_law : (fs : Fields) (es : Entries) (at : ReadState)
    → reading_fields fs es at ≡ outcome (fields_faults fs at.path es) (fields_unknown fs at.path es) at
unfolding reading_field
reading_fields_law no_more es at = sym (ap (λ s. Ok s) (noting_none at))
reading_fields_law (field k must s fs) es at =
    let us = field_unknown k (unknown s) at.path (get (key_text k) es) in
    outcome_then (field_faults k (must es) (faults s) at.path (get (key_text k) es))
    (fields_faults fs at.path es) us (fields_unknown fs at.path es) at (reading_fields fs es)
    (reading_fields_law fs es (noting us at))

-- a table: its fields, and then its other keys
pub reading_table : (fs : Fields) (es : Entries) (at : ReadState)
    → reading (struct fs) (table es) at
    ≡ (reading_fields fs es at >>= λ mid. Ok (noting_others are_noted (names_of fs) es mid))
unfolding reading
reading_table fs es at =
    sym (ap (λ r. r >>= λ mid. Ok (noting_others are_noted (names_of fs) es mid)) (reading_fields_law fs es at)
    ∙ outcome_then (fields_faults fs at.path es) [] (fields_unknown fs at.path es)
    (map (below at.path) (others (names_of fs) es)) at
    (λ mid. Ok (noting_others are_noted (names_of fs) es mid)) refl)

-- a table that refuses its other keys: these, and then its fields
pub closed_table : (other : Schema) (fs : Fields) (es : Entries) (at : ReadState)
    → reading (closed_struct other fs) (table es) at ≡ reading_closed fs es at
unfolding reading refusing_others reading_closed
closed_table other fs es at =
    let start = noting [] at in
    let xs = others_faults are_refused (names_of fs) at.path es in
    let nothing_more : reading_fields fs es start
    ≡ outcome (fields_faults fs at.path es ++ []) (fields_unknown fs at.path es ++ []) start =
    reading_fields_law fs es start
    ∙ rw (append-nil (fields_faults fs at.path es), append-nil (fields_unknown fs at.path es)) refl in
    sym (outcome_then xs (fields_faults fs at.path es ++ []) [] (fields_unknown fs at.path es ++ []) at
    (reading_fields fs es) nothing_more)

-- a table refuses the first of its other keys
abbrev pub by_first : Option (List ℕ) → ReadState → Result ReadState Fault
by_first None at = Ok at
by_first (Some k) at = Err (record { path = below at.path k; cause = unknown_field })

first_by : (ks : List (List ℕ)) (at : ReadState)
    → outcome (map (λ k. let f : Fault = record { path = below at.path k; cause = unknown_field } in f) ks) []
    at ≡ by_first (first ks) at
first_by [] at = ap (λ s. Ok s) (noting_none at)
first_by (k ∷ ks) at = refl

pub refusing_first : (names : List Key) (es : Entries) (at : ReadState)
    → refusing_others are_refused names es at ≡ by_first (first (others names es)) at
unfolding refusing_others
refusing_first names es at = first_by (others names es) at

-- one field, by what is at its key
abbrev pub by_entry : Key → Bool → Schema → Option Node → ReadState → Result ReadState Fault
by_entry k must s (Some n) at = reading_below (key_text k) s n at
by_entry k false s None at = Ok at
by_entry k true s None at = Err (record { path = at.path; cause = missing (key_text k) })

came_back : (xs : List Fault) (us : List (List ℕ)) (at : ReadState) (p : List ℕ)
    → outcome xs us at ≡ (outcome xs us (record { path = p; is_noted = at.is_noted }) >>= λ mid. Ok
    (back_at at.path mid))
came_back [] us at p = refl
came_back (x ∷ xs) us at p = refl

entry_law : (k : Key) (must : Bool) (s : Schema) (o : Option Node) (at : ReadState)
    → outcome (field_faults k must (faults s) at.path o) (field_unknown k (unknown s) at.path o) at
    ≡ by_entry k must s o at
unfolding reading reading_below field_faults field_unknown
entry_law k must s (Some n) at =
    came_back (faults s (below at.path (key_text k)) n) (unknown s (below at.path (key_text k)) n) at
    (below at.path (key_text k))
entry_law k false s None at = ap (λ s. Ok s) (noting_none at)
entry_law k true s None at = refl

pub field_by : (k : Key) (must : Bool) (s : Schema) (es : Entries) (at : ReadState)
    → reading_field k must s es at ≡ by_entry k must s (get (key_text k) es) at
unfolding reading_field
field_by k must s es at = entry_law k must s (get (key_text k) es) at

both : (a b : Bool) → cond b true a ≡ (a || (b || false))
both true true = refl
both true false = refl
both false true = refl
both false false = refl

-- one path more
pub noting_one : (old new : BTreeSet (String Global)) (key : String Global) (path : List ℕ) (p : List ℕ)
    → string_bytes key ≡ path → Updates string_cmp old new key true
    → (let a : ReadState = record { path = p; is_noted = contains_text new } in a)
    ≡ noting (path ∷ []) (record { path = p; is_noted = contains_text old })
noting_one old new key path p same updates =
    let each : (q : List ℕ) → contains_text new q ≡ (contains_text old q || is_one_of (path ∷ []) q) =
    λ q. rw (← same) (btree_set_updates_text (string_bytes key) old new true updates q
    ∙ both (contains_text old q) (bytes_eq (string_bytes key) q)) in
    λ i. record { path = p; is_noted = λ q. each q i }

-- what is noted once these keys have been gone over too
abbrev pub left : List Key → List ℕ → List (List ℕ) → ReadState → ReadState
left names p ks at = noting (map (below p) (filter (λ k. not (is_one_of (map key_text names) k)) ks)) at

pub left_one : (names : List Key) (p k : List ℕ) (ks : List (List ℕ)) (at mid : ReadState)
    → is_one_of (map key_text names) k ≡ false → mid ≡ noting (below p k ∷ []) at
    → left names p ks mid ≡ left names p (k ∷ ks) at
left_one names p k ks at mid free h =
    rw (free, h) (noting_twice (below p k ∷ [])
    (map (below p) (filter (λ k. not (is_one_of (map key_text names) k)) ks)) at)

-- items one after another
items_law : (s : Schema) (i : ℕ) (ns : Nodes) (at : ReadState)
    → reading_items s i ns at ≡ outcome (each_item (faults s) at.path i ns) (each_item (unknown s) at.path i ns) at
unfolding reading reading_below
items_law s i no_nodes at = sym (ap (λ s. Ok s) (noting_none at))
items_law s i (node n ns) at =
    let p = below at.path (decimal i) in
    ap (λ r. r >>= reading_items s (i + 1) ns) (sym (came_back (faults s p n) (unknown s p n) at p))
    ∙ outcome_then (faults s p n) (each_item (faults s) at.path (i + 1) ns) (unknown s p n)
    (each_item (unknown s) at.path (i + 1) ns) at (reading_items s (i + 1) ns)
    (items_law s (i + 1) ns (noting (unknown s p n) at))

then_ok : (r : Result ReadState Fault) → (r >>= test_outcome None) ≡ r
then_ok (Ok x) = refl
then_ok (Err e) = refl

-- a test over several fields comes after them
across_after : (xs : List Fault) (us : List (List ℕ)) (at : ReadState) (c : Option FaultCause)
    → outcome (xs ++ at_path at.path c) us at ≡ (outcome (xs ++ []) us at >>= test_outcome c)
across_after [] us at None = refl
across_after [] us at (Some c) = refl
across_after (x ∷ xs) us at c = refl

-- an array: its items, and then the test of the whole
pub reading_array : (other s : Schema) (across : Nodes → Option FaultCause) (ns : Nodes) (at : ReadState)
    → reading (items_of other s across) (array ns) at ≡ (reading_items s 0 ns at >>= test_outcome (across ns))
unfolding reading
reading_array other s across ns at =
    across_after (each_item (faults s) at.path 0 ns) (each_item (unknown s) at.path 0 ns) at (across ns)
    ∙ ap (λ r. r >>= test_outcome (across ns))
    (rw (append-nil (each_item (faults s) at.path 0 ns)) (sym (items_law s 0 ns at)))

pub reading_list : (s : Schema) (ns : Nodes) (at : ReadState)
    → reading (list_of s) (array ns) at ≡ reading_items s 0 ns at
reading_list s ns at = reading_array _ s (λ ns. None) ns at ∙ then_ok (reading_items s 0 ns at)

-- the end of a loop over items
pub list_done : {X : Type 0} (P : Node → X → Type 0) (ts : List Tree) (i : ℕ) (xs : List X) → length ts ≤ i
    → ((rest : List X) → IsList P (nodes_view (drop i ts)) rest → IsList P (nodes_view ts) (xs ++ rest))
    → IsList P (nodes_view ts) xs
list_done P ts i xs le h =
    let e : drop i ts ≡ [] = grind (arith, common_steps) in
    rw append-nil at (h [] (rw e tt))

pub items_stop : (s : Schema) (i : ℕ) (ts : List Tree) (t : Tree) (at : ReadState)
    (total : Result ReadState Fault) (f : Fault) → drop i ts ≡ t ∷ drop (i + 1) ts
    → reading_below (decimal i) s (tree_view t) at ≡ Err f
    → reading_items s i (nodes_view (drop i ts)) at ≡ total → total ≡ Err f
items_stop s i ts t at total f e stops so_far =
    let one : reading_items s i (nodes_view (drop i ts)) at ≡ Err f =
    rw e (ap (λ r. r >>= reading_items s (i + 1) (nodes_view (drop (i + 1) ts))) stops) in
    sym so_far ∙ one

-- the value of a leaf
pub leaf_there : {X : Type 0} (read : Node → Result X FaultCause) (d : X) (o : Option Node) (x : X)
    → IsOptional (λ n x. read n ≡ Ok x) o (Some x) → leaf_or d read o ≡ x
leaf_there read d None x h = absurd h
leaf_there read d (Some n) x h = rw h

pub leaf_read : {X : Type 0} (read : Node → Result X FaultCause) (o : Option Node) (x : Option X)
    → IsOptional (λ n x. read n ≡ Ok x) o x → leaf_at read o ≡ x
leaf_read read None None h = refl
leaf_read read (Some n) (Some x) h = rw h
leaf_read read None (Some x) h = absurd h
leaf_read read (Some n) None h = absurd h

-- the value of a field that may be absent, or what means it
pub defaulted : {X : Type 0} (P : Node → X → Type 0) (d : X) (o : Option Node) (x : Option X)
    → IsOptional P o x → IsDefaulted d P o (unwrap_or x d)
defaulted P d None None h = refl
defaulted P d (Some n) (Some x) h = h
defaulted P d None (Some x) h = absurd h
defaulted P d (Some n) None h = absurd h

-- a field that is read by way of another type
pub optional_by : {X Y : Type 0} (P : Node → Y → Type 0) (f : X → Y) (o : Option Node) (x : Option X)
    → IsOptional (λ n x. P n (f x)) o x → IsOptional P o (option_map f x)
optional_by P f None None h = h
optional_by P f (Some n) (Some x) h = h
optional_by P f None (Some x) h = absurd h
optional_by P f (Some n) None h = absurd h

pub reading_across : (other : Schema) (fs : Fields) (across : Entries → Option FaultCause) (es : Entries)
    (at : ReadState) → reading (fields are_noted other fs across) (table es) at
    ≡ (reading (struct fs) (table es) at >>= test_outcome (across es))
unfolding reading
reading_across other fs across es at =
    across_after (fields_faults fs at.path es) (unknown (struct fs) at.path (table es)) at (across es)

-- entries one after another
entry_by : (c : Option FaultCause) (s : Schema) (k : List ℕ) (n : Node) (at : ReadState)
    → ((test_outcome c (inside k at) >>= reading s n) >>= λ mid. Ok (back_at at.path mid))
    ≡ outcome (at_path (below at.path k) c ++ faults s (below at.path k) n) (unknown s (below at.path k) n) at
unfolding reading
entry_by None s k n at = sym
    (came_back (faults s (below at.path k) n) (unknown s (below at.path k) n) at (below at.path k))
entry_by (Some c) s k n at = refl

one_entry : (test : List ℕ → Option FaultCause) (s : Schema) (k : List ℕ) (n : Node) (at : ReadState)
    → reading_entry test s k n at
    ≡ outcome (at_path (below at.path k) (test k) ++ faults s (below at.path k) n) (unknown s (below at.path k) n) at
unfolding reading_entry
one_entry test s k n at = entry_by (test k) s k n at

entries_law : (test : List ℕ → Option FaultCause) (s : Schema) (es : Entries) (at : ReadState)
    → reading_entries test s es at
    ≡ outcome (each_entry (λ k n. at_path (below at.path k) (test k) ++ faults s (below at.path k) n) es)
    (each_entry (λ k n. unknown s (below at.path k) n) es) at
entries_law test s no_entries at = sym (ap (λ s. Ok s) (noting_none at))
entries_law test s (entry k n es) at =
    let p = below at.path k in
    let rest = λ (at : ReadState). each_entry
    (λ k n. at_path (below at.path k) (test k) ++ faults s (below at.path k) n) es in
    let more = λ (at : ReadState). each_entry (λ k n. unknown s (below at.path k) n) es in
    ap (λ r. r >>= reading_entries test s es) (one_entry test s k n at)
    ∙ outcome_then (at_path p (test k) ++ faults s p n) (rest at) (unknown s p n) (more at) at
    (reading_entries test s es) (entries_law test s es (noting (unknown s p n) at))

pub reading_map : (test : List ℕ → Option FaultCause) (s : Schema) (es : Entries) (at : ReadState)
    → reading (map_of test s) (table es) at ≡ reading_entries test s es at
unfolding reading
reading_map test s es at = sym (entries_law test s es at)

pub entries_step : (test : List ℕ → Option FaultCause) (s : Schema) (k key : List ℕ) (n : Node) (es : Entries)
    (at mid : ReadState) → key ≡ k → reading_entry test s key n at ≡ Ok mid
    → reading_entries test s es mid ≡ reading_entries test s (entry k n es) at
entries_step test s k key n es at mid same h = rw (← same, h) refl

then_twice : {A B C : Type 0} (r : Result A Fault) (f : A → Result B Fault) (g : B → Result C Fault)
    → ((r >>= f) >>= g) ≡ (r >>= λ x. f x >>= g)
then_twice (Ok x) f g = refl
then_twice (Err e) f g = refl

then_same : {A B : Type 0} (r : Result A Fault) (f g : A → Result B Fault) → ((x : A) → f x ≡ g x)
    → (r >>= f) ≡ (r >>= g)
then_same (Ok x) f g h = h x
then_same (Err e) f g h = refl

-- two groups of fields
pub reading_joined : (fs gs : Fields) (es : Entries) (at : ReadState)
    → reading_fields (append_fields fs gs) es at ≡ (reading_fields fs es at >>= reading_fields gs es)
reading_joined no_more gs es at = refl
reading_joined (field k must s fs) gs es at =
    then_same (reading_field k (must es) s es at) (reading_fields (append_fields fs gs) es)
    (λ mid. reading_fields fs es mid >>= reading_fields gs es) (reading_joined fs gs es)
    ∙ sym (then_twice (reading_field k (must es) s es at) (reading_fields fs es) (reading_fields gs es))

pub reading_any : (n : Node) (at : ReadState) → reading any n at ≡ Ok at
unfolding reading
reading_any n at = ap (λ s. Ok s) (noting_none at)

-- ---- going down a path, and back

-- the path of what is at a key begins with the path
pub below_front : (p k : List ℕ) → take (length p) (below p k) ≡ p
below_front [] k = refl
below_front (c ∷ p) k = ap (take (length (c ∷ p))) (append_assoc (c ∷ p) (codes ".") k)
    ∙ take-append_seam (c ∷ p) (codes "." ++ k)

below_splits : (p k : List ℕ) → IsSplitPoint (below p k) (length p)
below_splits [] k = (omega arith, λ h. omega (arith, h))
below_splits (c ∷ p) k =
    let dot : get_or (p ++ codes "." ++ k) (length p) 0 ≡ 46 =
    ap (λ t. get_or t (length p) 0) (append_assoc p (codes ".") k) ∙ get_or-append_seam p 46 k 0 in (
      omega (arith, length-append p (codes "."), length-append (p ++ codes ".") k),
      λ some inside large. omega
          (arith, dot, large),
    )

outcome_stays : (xs : List Fault) (us : List (List ℕ)) (at mid : ReadState) → outcome xs us at ≡ Ok mid
    → mid.path ≡ at.path
outcome_stays [] us at mid h = let e : noting us at ≡ mid = cc in sym (ap (λ s. s.path) e)
outcome_stays (x ∷ xs) us at mid h = let no : Err x ≡ Ok mid = h in cc

-- reading leaves the walk where it stood
pub reading_stays : (s : Schema) (n : Node) (at mid : ReadState) → reading s n at ≡ Ok mid → mid.path ≡ at.path
unfolding reading
reading_stays s n at mid h = outcome_stays (faults s at.path n) (unknown s at.path n) at mid h

-- after what is at a key was read, the walk can go back
pub can_go_back : (s : Schema) (n : Node) (k : List ℕ) (outer : ℕ) (at down mid : ReadState)
    → outer ≡ length at.path → down ≡ inside k at → reading s n down ≡ Ok mid → IsSplitPoint mid.path outer
can_go_back s n k outer at down mid o d h =
    let path : below at.path k ≡ mid.path = sym (reading_stays s n down mid h ∙ ap (λ a. a.path) d) in
    subst (λ p. IsSplitPoint p outer) path
    (subst (λ m. IsSplitPoint (below at.path k) m) (sym o) (below_splits at.path k))

-- and then it stands where it was before
pub went_back : (s : Schema) (n : Node) (k : List ℕ) (outer : ℕ) (at down mid last : ReadState)
    → outer ≡ length at.path → down ≡ inside k at → reading s n down ≡ Ok mid
    → last ≡ back_at (take outer mid.path) mid → last ≡ back_at at.path mid
went_back s n k outer at down mid last o d h b =
    let path : take outer mid.path ≡ at.path =
    ap (λ m. take m mid.path) o
    ∙ ap (take (length at.path)) (reading_stays s n down mid h ∙ ap (λ a. a.path) d) ∙ below_front at.path k in
    b ∙ ap (λ p. back_at p mid) path

-- so reading what is at a key is read whole
pub read_below_whole : (s : Schema) (n : Node) (k : List ℕ) (outer : ℕ) (at down mid last : ReadState)
    → outer ≡ length at.path → down ≡ inside k at → reading s n down ≡ Ok mid
    → last ≡ back_at (take outer mid.path) mid → reading_below k s n at ≡ Ok last
unfolding reading_below
read_below_whole s n k outer at down mid last o d h b =
    ap (λ a. reading s n a >>= λ m. Ok (back_at at.path m)) (sym d)
    ∙ ap (λ r. r >>= λ m. Ok (back_at at.path m)) h
    ∙ ap (λ a. Ok a) (sym (went_back s n k outer at down mid last o d h b))

-- and so is the entry of a map whose key passes
pub read_entry_whole : (test : List ℕ → Option FaultCause) (s : Schema) (n : Node) (k : List ℕ) (outer : ℕ)
    (at down mid last : ReadState) → test k ≡ None → outer ≡ length at.path → down ≡ inside k at
    → reading s n down ≡ Ok mid → last ≡ back_at (take outer mid.path) mid → reading_entry test s k n at ≡ Ok last
unfolding reading_entry reading_below
read_entry_whole test s n k outer at down mid last passed o d h b =
    ap (λ c. (test_outcome c (inside k at) >>= reading s n) >>= λ m. Ok (back_at at.path m)) passed
    ∙ read_below_whole s n k outer at down mid last o d h b
