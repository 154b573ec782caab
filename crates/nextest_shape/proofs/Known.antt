-- A form knows all keys of a schema: what it accepts has no unknown key there.
use Rattle.std.proofs.Common.{◌≡◌, ℕ, ◌+◌, ◌-◌, List, [], ◌∷◌, ◌++◌, Bool, true, false, ◌||◌, map, Option, Some, None, Ordering, Less, Equal, Greater, inl, inr, refl, ap, ◌∙◌, subst, bytes_eq}
use Rattle.std.proofs.lemmas.Cmp.{nat_list_cmp_total}
use Rattle.std.proofs.lemmas.Slice.Eq.{bytes_eq-Decides}
use Rattle.std.specs.Cmp.{tied_itself}
use Rattle.std.specs.Fmt.{decimal}
use Rattle.std.specs.Ordering.{match_ordering}
use Rattle.nextest_tree.specs.declared.key.Key.{Key}
use Rattle.nextest_tree.specs.Key.{key_text}
use Rattle.nextest_tree.specs.Node.{Node, table, array, text, int, bool, opaque, Nodes, no_nodes, node, Entries, no_entries, entry, get, PrecedesKeys, IsSorted, NodesAreSorted, EntriesAreSorted}
use Rattle.nextest_tree.specs.Schema.{FaultCause, Schema, leaf, not_table, fields, Others, are_noted, are_refused, Fields, no_more, field, struct, map_of, items_of, list_of, below, each_item, each_entry, is_one_of, names_of, others, others_unknown, unknown, fields_unknown, field_unknown}
use Rattle.nextest_documents.proofs.Laying.{cmp, turned, equal_text}
use Rattle.nextest_shape.specs.Accepts.{Accepts, AcceptsFields, MeetsAt, AreItems}
use Rattle.nextest_shape.specs.FileForm.{one_or_other}
use Rattle.nextest_shape.specs.Form.{TextForm, Form, an_array, a_table, a_map, FieldForms, no_fields, a_field, field_keys}

pub record KnowsAll (s : Schema) (f : Form) : Type 0 where
  pub knows : (q : List ℕ) (n : Node) → IsSorted n → Accepts f n → unknown s q n ≡ []

-- nothing below is a key
pub knows_leaf : (s : Schema) (f : Form) → ((q : List ℕ) (n : Node) → unknown s q n ≡ []) → KnowsAll s f
knows_leaf s f none = record { knows = λ q n sorted accepted. none q n }

-- the fields know all keys of those of a schema, key by key
abbrev pub FieldsKnow : Fields → FieldForms → Type 0
FieldsKnow no_more no_fields = Unit {0}
FieldsKnow no_more (a_field l r f gs) = ⊥
FieldsKnow (field k must s fs) no_fields = ⊥
FieldsKnow (field k must s fs) (a_field l r f gs) = (k ≡ l) × KnowsAll s f × FieldsKnow fs gs

both_nil : {A : Type 0} (xs ys : List A) → xs ≡ [] → ys ≡ [] → xs ++ ys ≡ []
both_nil xs ys h k = rw (h, k) refl

-- ---- what is at a key

pub found_sorted : (k : List ℕ) (es : Entries) (n : Node) → EntriesAreSorted es → get k es ≡ Some n → IsSorted n
found_sorted k no_entries n s h = cc
found_sorted k (entry l m es) n s h = by_order (cmp k l) h (found_sorted k es n s.2)
  where
    by_order : (o : Ordering) → match_ordering o (get k es) (Some m) (get k es) ≡ Some n
        → (get k es ≡ Some n → IsSorted n) → IsSorted n
    by_order Less h more = more h
    by_order Equal h more = let same : m ≡ n = cc in
        let P : Node → Type 0 = IsSorted in subst P same s.1
    by_order Greater h more = more h

-- a key that stands after another is above it
found_later : (k l : List ℕ) (es : Entries) (n : Node) → PrecedesKeys k es → get l es ≡ Some n → cmp k l ≡ Less
found_later k l no_entries n before h = cc
found_later k l (entry j m es) n before h = by_order (cmp l j) refl h (found_later k l es n before.1)
  where
    by_order : (o : Ordering) → cmp l j ≡ o → match_ordering o (get l es) (Some m) (get l es) ≡ Some n
        → (get l es ≡ Some n → cmp k l ≡ Less) → cmp k l ≡ Less
    by_order Less is h more = more h
    by_order Equal is h more = rw (equal_text l j is) before.0
    by_order Greater is h more = more h

-- ---- tables

field_known : (k : Key) (s : Schema) (f : Form) (r : Bool) (q : List ℕ) (o : Option Node)
    → ((n : Node) → o ≡ Some n → IsSorted n) → KnowsAll s f → MeetsAt r (Accepts f) o
    → field_unknown k (unknown s) q o ≡ []
unfolding field_unknown
field_known k s f r q None sorted all met = refl
field_known k s f r q (Some n) sorted all met = all.knows _ n (sorted n refl) met

fields_known : (fs : Fields) (gs : FieldForms) (es : Entries) (q : List ℕ) → EntriesAreSorted es → FieldsKnow fs gs
    → AcceptsFields gs es → fields_unknown fs q es ≡ []
fields_known no_more no_fields es q sorted all met = refl
fields_known no_more (a_field l r f gs) es q sorted all met = absurd all
fields_known (field k must s fs) no_fields es q sorted all met = absurd all
fields_known (field k must s fs) (a_field l r f gs) es q sorted all met =
    both_nil (field_unknown k (unknown s) q (get (key_text k) es)) (fields_unknown fs q es)
    (field_known k s f r q (get (key_text k) es) (λ n there. found_sorted (key_text k) es n sorted there) all.1
    (rw all.0 met.0))
    (fields_known fs gs es q sorted all.2 met.1)

same_names : (fs : Fields) (gs : FieldForms) → FieldsKnow fs gs → names_of fs ≡ field_keys gs
same_names no_more no_fields all = refl
same_names no_more (a_field l r f gs) all = absurd all
same_names (field k must s fs) no_fields all = absurd all
same_names (field k must s fs) (a_field l r f gs) all = rw all.0 (ap (λ ks. l ∷ ks) (same_names fs gs all.2))

none_noted : (how : Others) (names : List Key) (q : List ℕ) (es : Entries) → others names es ≡ []
    → others_unknown how names q es ≡ []
none_noted are_noted names q es h = ap (map (below q)) h
none_noted are_refused names q es h = refl

table_known : (how : Others) (other : Schema) (fs : Fields) (across : Entries → Option FaultCause) (gs : FieldForms)
    (es : Entries) (q : List ℕ) → FieldsKnow fs gs → EntriesAreSorted es → Accepts (a_table gs) (table es)
    → unknown (fields how other fs across) q (table es) ≡ []
table_known how other fs across gs es q all sorted met =
    both_nil (fields_unknown fs q es) (others_unknown how (names_of fs) q es)
    (fields_known fs gs es q sorted all met.0)
    (none_noted how (names_of fs) q es (rw (same_names fs gs all) met.1))

pub knows_struct : (fs : Fields) (gs : FieldForms) → FieldsKnow fs gs → KnowsAll (struct fs) (a_table gs)
knows_struct fs gs all = record { knows = go }
  where
    go : (q : List ℕ) (n : Node) → IsSorted n → Accepts (a_table gs) n → unknown (struct fs) q n ≡ []
    go q (table es) sorted met = table_known are_noted (leaf not_table) fs (λ es. None) gs es q all sorted met
    go q (array ns) sorted met = absurd met
    go q (text t) sorted met = absurd met
    go q (int z) sorted met = absurd met
    go q (bool b) sorted met = absurd met
    go q opaque sorted met = absurd met

-- a table, or something else that is not a table
pub knows_or : (how : Others) (other : Schema) (fs : Fields) (across : Entries → Option FaultCause) (f : Form)
    (gs : FieldForms) → KnowsAll other f → ((es : Entries) → Accepts f (table es) → ⊥) → FieldsKnow fs gs
    → KnowsAll (fields how other fs across) (one_or_other f (a_table gs))
knows_or how other fs across f gs rest no_table all = record { knows = go }
  where
    flat : (q : List ℕ) (n : Node) → IsSorted n → (Accepts (a_table gs) n → ⊥)
        → Accepts (one_or_other f (a_table gs)) n → unknown other q n ≡ []
    flat q n sorted not_one (inl a) = rest.knows q n sorted a
    flat q n sorted not_one (inr (inl m)) = absurd (not_one m)
    flat q n sorted not_one (inr (inr b)) = absurd b

    go : (q : List ℕ) (n : Node) → IsSorted n → Accepts (one_or_other f (a_table gs)) n
        → unknown (fields how other fs across) q n ≡ []
    go q (table es) sorted (inl a) = absurd (no_table es a)
    go q (table es) sorted (inr (inl m)) = table_known how other fs across gs es q all sorted m
    go q (table es) sorted (inr (inr b)) = absurd b
    go q (array ns) sorted met = flat q (array ns) sorted (λ m. m) met
    go q (text t) sorted met = flat q (text t) sorted (λ m. m) met
    go q (int z) sorted met = flat q (int z) sorted (λ m. m) met
    go q (bool b) sorted met = flat q (bool b) sorted (λ m. m) met
    go q opaque sorted met = flat q opaque sorted (λ m. m) met

-- ---- arrays

items_known : (s : Schema) (f : Form) (least : ℕ) (q : List ℕ) (i : ℕ) (ns : Nodes) → KnowsAll s f
    → NodesAreSorted ns → AreItems (Accepts f) least ns → each_item (unknown s) q i ns ≡ []
items_known s f least q i no_nodes all sorted met = refl
items_known s f least q i (node n ns) all sorted met =
    both_nil (unknown s (below q (decimal i)) n) (each_item (unknown s) q (i + 1) ns)
    (all.knows _ n sorted.0 met.0)
    (items_known s f (least - 1) q (i + 1) ns all sorted.1 met.1)

pub knows_list : (s : Schema) (f : Form) (least : ℕ) → KnowsAll s f → KnowsAll (list_of s) (an_array least f)
knows_list s f least all = record { knows = go }
  where
    go : (q : List ℕ) (n : Node) → IsSorted n → Accepts (an_array least f) n → unknown (list_of s) q n ≡ []
    go q (array ns) sorted met = items_known s f least q 0 ns all sorted met
    go q (table es) sorted met = absurd met
    go q (text t) sorted met = absurd met
    go q (int z) sorted met = absurd met
    go q (bool b) sorted met = absurd met
    go q opaque sorted met = absurd met

-- an array, or something else that has no keys
pub knows_items : (other s : Schema) (across : Nodes → Option FaultCause) (f g : Form) (least : ℕ)
    → ((q : List ℕ) (n : Node) → unknown other q n ≡ []) → ((ns : Nodes) → Accepts f (array ns) → ⊥)
    → KnowsAll s g → KnowsAll (items_of other s across) (one_or_other f (an_array least g))
knows_items other s across f g least rest no_array all = record { knows = go }
  where
    go : (q : List ℕ) (n : Node) → IsSorted n → Accepts (one_or_other f (an_array least g)) n
        → unknown (items_of other s across) q n ≡ []
    go q (array ns) sorted (inl a) = absurd (no_array ns a)
    go q (array ns) sorted (inr (inl m)) = items_known s g least q 0 ns all sorted m
    go q (array ns) sorted (inr (inr b)) = absurd b
    go q (table es) sorted met = rest q (table es)
    go q (text t) sorted met = rest q (text t)
    go q (int z) sorted met = rest q (int z)
    go q (bool b) sorted met = rest q (bool b)
    go q opaque sorted met = rest q opaque

-- ---- maps

-- what is at the keys has no unknown keys
abbrev KnownAt : Schema → Entries → Type 0
KnownAt s es = (k : List ℕ) → (n : Node) → get k es ≡ Some n → (q : List ℕ) → unknown s q n ≡ []

pub first_found : (k : List ℕ) (n : Node) (es : Entries) → get k (entry k n es) ≡ Some n
first_found k n es = rw (tied_itself nat_list_cmp_total k) refl

pub later_found : (k l : List ℕ) (n m : Node) (es : Entries) → PrecedesKeys k es → get l es ≡ Some m
    → get l (entry k n es) ≡ Some m
later_found k l n m es before h =
    let above : cmp l k ≡ Greater = turned k l Less (found_later k l es m before h) in
    rw above h

pub entries_known : (s : Schema) (q : List ℕ) (es : Entries) → EntriesAreSorted es → KnownAt s es
    → each_entry (λ k n. unknown s (below q k) n) es ≡ []
entries_known s q no_entries sorted known = refl
entries_known s q (entry k n es) sorted known =
    both_nil (unknown s (below q k) n) (each_entry (λ k n. unknown s (below q k) n) es)
    (known k n (first_found k n es) (below q k))
    (entries_known s q es sorted.2 (λ l m h p. known l m (later_found k l n m es sorted.0 h) p))

pub knows_map : (test : List ℕ → Option FaultCause) (names : TextForm) (s : Schema) (f : Form) → KnowsAll s f
    → KnowsAll (map_of test s) (a_map names no_fields f)
knows_map test names s f all = record { knows = go }
  where
    go : (q : List ℕ) (n : Node) → IsSorted n → Accepts (a_map names no_fields f) n → unknown (map_of test s) q n ≡ []
    go q (table es) sorted met = entries_known s q es sorted
        (λ k n there p. all.knows p n (found_sorted k es n sorted there) ((met.1 k n there).1 refl))
    go q (array ns) sorted met = absurd met
    go q (text t) sorted met = absurd met
    go q (int z) sorted met = absurd met
    go q (bool b) sorted met = absurd met
    go q opaque sorted met = absurd met

pub only : (b : Bool) → (b || false) ≡ true → b ≡ true
only true h = refl
only false h = h

-- a map with a form of its own at one name
pub knows_map_but : (test : List ℕ → Option FaultCause) (names : TextForm) (l : Key) (s : Schema) (g f : Form)
    → KnowsAll s g → KnowsAll s f → KnowsAll (map_of test s) (a_map names (a_field l false g no_fields) f)
knows_map_but test names l s g f own all = record { knows = go }
  where
    by_name : (k : List ℕ) (n : Node) (es : Entries) (b : Bool) → is_one_of (key_text l ∷ []) k ≡ b
        → get k es ≡ Some n → IsSorted n → MeetsAt false (Accepts g) (get (key_text l) es)
        → (is_one_of (key_text l ∷ []) k ≡ false → Accepts f n) → (q : List ℕ) → unknown s q n ≡ []
    by_name k n es false is there sorted named other q = all.knows q n sorted (other is)
    by_name k n es true is there sorted named other q =
        let same : key_text l ≡ k = (bytes_eq-Decides (key_text l) k).0 (only (bytes_eq (key_text l) k) is) in
        let at : get (key_text l) es ≡ Some n = ap (λ j. get j es) same ∙ there in
        own.knows q n sorted (let P : Option Node → Type 0 = MeetsAt false (Accepts g) in subst P at named)

    go : (q : List ℕ) (n : Node) → IsSorted n → Accepts (a_map names (a_field l false g no_fields) f) n
        → unknown (map_of test s) q n ≡ []
    go q (table es) sorted met = entries_known s q es sorted
        (λ k n there p. by_name k n es (is_one_of (key_text l ∷ []) k) refl there (found_sorted k es n sorted there)
        met.0.0 (met.1 k n there).1 p)
    go q (array ns) sorted met = absurd met
    go q (text t) sorted met = absurd met
    go q (int z) sorted met = absurd met
    go q (bool b) sorted met = absurd met
    go q opaque sorted met = absurd met
