-- What a form accepts has only faults of what is missing or out of range.
use Rattle.std.proofs.Common.{◌≡◌, ℕ, ◌+◌, ◌-◌, List, [], ◌∷◌, ◌++◌, Bool, true, false, Option, Some, None, inl, inr, refl, ap, ◌∙◌, subst, bytes_eq}
use Rattle.std.proofs.lemmas.Slice.Eq.{bytes_eq-Decides}
use Rattle.std.specs.Fmt.{decimal}
use Rattle.nextest_tree.specs.declared.key.Key.{Key}
use Rattle.nextest_tree.specs.Key.{key_text}
use Rattle.nextest_tree.specs.Node.{Node, table, array, text, int, bool, opaque, Nodes, no_nodes, node, Entries, no_entries, entry, get, IsSorted, NodesAreSorted, EntriesAreSorted}
use Rattle.nextest_tree.specs.Schema.{FaultCause, Fault, Schema, any, leaf, not_table, fields, Others, are_noted, are_refused, Fields, no_more, field, struct, map_of, items_of, list_of, below, at, each_item, each_entry, is_one_of, names_of, others, others_faults, faults, fields_faults, field_faults}
use Rattle.nextest_shape.specs.Accepts.{Accepts, AcceptsFields, AcceptsText, MeetsAt, AreItems}
use Rattle.nextest_shape.specs.FileForm.{one_or_other}
use Rattle.nextest_shape.specs.Form.{TextForm, Form, an_array, a_table, a_map, FieldForms, no_fields, a_field, field_keys}
use Rattle.nextest_shape.specs.Mild.{IsMild, AreMild}
use Rattle.nextest_shape.proofs.Known.{found_sorted, first_found, later_found, only}

pub record MildAll (s : Schema) (f : Form) : Type 0 where
  pub mild : (p : List ℕ) (n : Node) → IsSorted n → Accepts f n → AreMild (faults s p n)

-- a cause, if there is one, is mild
abbrev pub IsMildIf : Option FaultCause → Type 0
IsMildIf None = Unit {0}
IsMildIf (Some c) = IsMild c

-- the fields are mild, key by key
abbrev pub FieldsMild : Fields → FieldForms → Type 0
FieldsMild no_more no_fields = Unit {0}
FieldsMild no_more (a_field l r f gs) = ⊥
FieldsMild (field k must s fs) no_fields = ⊥
FieldsMild (field k must s fs) (a_field l r f gs) = (k ≡ l) × MildAll s f × FieldsMild fs gs

mild_append : (xs ys : List Fault) → AreMild xs → AreMild ys → AreMild (xs ++ ys)
mild_append [] ys h k = k
mild_append (x ∷ xs) ys h k = (h.0, mild_append xs ys h.1 k)

mild_at : (p : List ℕ) (c : Option FaultCause) → IsMildIf c → AreMild (at p c)
mild_at p None h = tt
mild_at p (Some c) h = (h, tt)

pub mild_leaf : (test : Node → Option FaultCause) (f : Form) → ((n : Node) → Accepts f n → IsMildIf (test n))
    → MildAll (leaf test) f
mild_leaf test f each = record { mild = λ p n sorted accepted. mild_at p (test n) (each n accepted) }

pub mild_any : (f : Form) → MildAll any f
mild_any f = record { mild = λ p n sorted accepted. tt }

-- ---- tables

field_mild : (k : Key) (must : Bool) (s : Schema) (f : Form) (r : Bool) (p : List ℕ) (o : Option Node)
    → ((n : Node) → o ≡ Some n → IsSorted n) → MildAll s f → MeetsAt r (Accepts f) o
    → AreMild (field_faults k must (faults s) p o)
unfolding field_faults
field_mild k true s f r p None sorted all met = (tt, tt)
field_mild k false s f r p None sorted all met = tt
field_mild k must s f r p (Some n) sorted all met = all.mild _ n (sorted n refl) met

fields_mild : (fs : Fields) (gs : FieldForms) (es : Entries) (p : List ℕ) → EntriesAreSorted es → FieldsMild fs gs
    → AcceptsFields gs es → AreMild (fields_faults fs p es)
fields_mild no_more no_fields es p sorted all met = tt
fields_mild no_more (a_field l r f gs) es p sorted all met = absurd all
fields_mild (field k must s fs) no_fields es p sorted all met = absurd all
fields_mild (field k must s fs) (a_field l r f gs) es p sorted all met =
    mild_append (field_faults k (must es) (faults s) p (get (key_text k) es)) (fields_faults fs p es)
    (field_mild k (must es) s f r p (get (key_text k) es) (λ n there. found_sorted (key_text k) es n sorted there) all.1
    (rw all.0 met.0))
    (fields_mild fs gs es p sorted all.2 met.1)

same_names : (fs : Fields) (gs : FieldForms) → FieldsMild fs gs → names_of fs ≡ field_keys gs
same_names no_more no_fields all = refl
same_names no_more (a_field l r f gs) all = absurd all
same_names (field k must s fs) no_fields all = absurd all
same_names (field k must s fs) (a_field l r f gs) all = rw all.0 (ap (λ ks. l ∷ ks) (same_names fs gs all.2))

none_refused : (how : Others) (names : List Key) (p : List ℕ) (es : Entries) → others names es ≡ []
    → AreMild (others_faults how names p es)
none_refused are_noted names p es h = tt
none_refused are_refused names p es h = rw h tt

table_mild : (how : Others) (other : Schema) (fs : Fields) (across : Entries → Option FaultCause) (gs : FieldForms)
    (es : Entries) (p : List ℕ) → ((es : Entries) → IsMildIf (across es)) → FieldsMild fs gs → EntriesAreSorted es
    → Accepts (a_table gs) (table es) → AreMild (faults (fields how other fs across) p (table es))
table_mild how other fs across gs es p sound all sorted met =
    mild_append (others_faults how (names_of fs) p es) (fields_faults fs p es ++ at p (across es))
    (none_refused how (names_of fs) p es (rw (same_names fs gs all) met.1))
    (mild_append (fields_faults fs p es) (at p (across es)) (fields_mild fs gs es p sorted all met.0)
    (mild_at p (across es) (sound es)))

pub mild_struct : (fs : Fields) (gs : FieldForms) → FieldsMild fs gs → MildAll (struct fs) (a_table gs)
mild_struct fs gs all = record { mild = go }
  where
    go : (p : List ℕ) (n : Node) → IsSorted n → Accepts (a_table gs) n → AreMild (faults (struct fs) p n)
    go p (table es) sorted met =
        table_mild are_noted (leaf not_table) fs (λ es. None) gs es p (λ es. tt) all sorted met
    go p (array ns) sorted met = absurd met
    go p (text t) sorted met = absurd met
    go p (int z) sorted met = absurd met
    go p (bool b) sorted met = absurd met
    go p opaque sorted met = absurd met

-- a table, or something else that is not a table
pub mild_or : (how : Others) (other : Schema) (fs : Fields) (across : Entries → Option FaultCause) (f : Form)
    (gs : FieldForms) → MildAll other f → ((es : Entries) → Accepts f (table es) → ⊥)
    → ((es : Entries) → IsMildIf (across es)) → FieldsMild fs gs
    → MildAll (fields how other fs across) (one_or_other f (a_table gs))
mild_or how other fs across f gs rest no_table sound all = record { mild = go }
  where
    flat : (p : List ℕ) (n : Node) → IsSorted n → (Accepts (a_table gs) n → ⊥)
        → Accepts (one_or_other f (a_table gs)) n → AreMild (faults other p n)
    flat p n sorted not_one (inl a) = rest.mild p n sorted a
    flat p n sorted not_one (inr (inl m)) = absurd (not_one m)
    flat p n sorted not_one (inr (inr b)) = absurd b

    go : (p : List ℕ) (n : Node) → IsSorted n → Accepts (one_or_other f (a_table gs)) n
        → AreMild (faults (fields how other fs across) p n)
    go p (table es) sorted (inl a) = absurd (no_table es a)
    go p (table es) sorted (inr (inl m)) = table_mild how other fs across gs es p sound all sorted m
    go p (table es) sorted (inr (inr b)) = absurd b
    go p (array ns) sorted met = flat p (array ns) sorted (λ m. m) met
    go p (text t) sorted met = flat p (text t) sorted (λ m. m) met
    go p (int z) sorted met = flat p (int z) sorted (λ m. m) met
    go p (bool b) sorted met = flat p (bool b) sorted (λ m. m) met
    go p opaque sorted met = flat p opaque sorted (λ m. m) met

-- ---- arrays

items_mild : (s : Schema) (f : Form) (least : ℕ) (p : List ℕ) (i : ℕ) (ns : Nodes) → MildAll s f
    → NodesAreSorted ns → AreItems (Accepts f) least ns → AreMild (each_item (faults s) p i ns)
items_mild s f least p i no_nodes all sorted met = tt
items_mild s f least p i (node n ns) all sorted met =
    mild_append (faults s (below p (decimal i)) n) (each_item (faults s) p (i + 1) ns)
    (all.mild _ n sorted.0 met.0)
    (items_mild s f (least - 1) p (i + 1) ns all sorted.1 met.1)

pub mild_list : (s : Schema) (f : Form) (least : ℕ) → MildAll s f → MildAll (list_of s) (an_array least f)
mild_list s f least all = record { mild = go }
  where
    go : (p : List ℕ) (n : Node) → IsSorted n → Accepts (an_array least f) n → AreMild (faults (list_of s) p n)
    go p (array ns) sorted met =
        mild_append (each_item (faults s) p 0 ns) [] (items_mild s f least p 0 ns all sorted met) tt
    go p (table es) sorted met = absurd met
    go p (text t) sorted met = absurd met
    go p (int z) sorted met = absurd met
    go p (bool b) sorted met = absurd met
    go p opaque sorted met = absurd met

-- an array, or something else that is none
pub mild_items : (other s : Schema) (across : Nodes → Option FaultCause) (f g : Form) (least : ℕ) → MildAll other f
    → ((ns : Nodes) → Accepts f (array ns) → ⊥) → ((ns : Nodes) → IsMildIf (across ns)) → MildAll s g
    → MildAll (items_of other s across) (one_or_other f (an_array least g))
mild_items other s across f g least rest no_array sound all = record { mild = go }
  where
    flat : (p : List ℕ) (n : Node) → IsSorted n → (Accepts (an_array least g) n → ⊥)
        → Accepts (one_or_other f (an_array least g)) n → AreMild (faults other p n)
    flat p n sorted not_one (inl a) = rest.mild p n sorted a
    flat p n sorted not_one (inr (inl m)) = absurd (not_one m)
    flat p n sorted not_one (inr (inr b)) = absurd b

    go : (p : List ℕ) (n : Node) → IsSorted n → Accepts (one_or_other f (an_array least g)) n
        → AreMild (faults (items_of other s across) p n)
    go p (array ns) sorted (inl a) = absurd (no_array ns a)
    go p (array ns) sorted (inr (inl m)) =
        mild_append (each_item (faults s) p 0 ns) (at p (across ns)) (items_mild s g least p 0 ns all sorted m)
        (mild_at p (across ns) (sound ns))
    go p (array ns) sorted (inr (inr b)) = absurd b
    go p (table es) sorted met = flat p (table es) sorted (λ m. m) met
    go p (text t) sorted met = flat p (text t) sorted (λ m. m) met
    go p (int z) sorted met = flat p (int z) sorted (λ m. m) met
    go p (bool b) sorted met = flat p (bool b) sorted (λ m. m) met
    go p opaque sorted met = flat p opaque sorted (λ m. m) met

-- ---- maps

-- the faults at an entry of a map
abbrev entry_faults : (List ℕ → Option FaultCause) → Schema → List ℕ → List ℕ → Node → List Fault
entry_faults test s p k n = at (below p k) (test k) ++ faults s (below p k) n

-- what is at the keys is mild
abbrev MildAt : (List ℕ → Option FaultCause) → Schema → List ℕ → Entries → Type 0
MildAt test s p es = (k : List ℕ) → (n : Node) → get k es ≡ Some n → AreMild (entry_faults test s p k n)

entries_mild : (test : List ℕ → Option FaultCause) (s : Schema) (p : List ℕ) (es : Entries) → EntriesAreSorted es
    → MildAt test s p es → AreMild (each_entry (entry_faults test s p) es)
entries_mild test s p no_entries sorted each = tt
entries_mild test s p (entry k n es) sorted each =
    mild_append (entry_faults test s p k n) (each_entry (entry_faults test s p) es)
    (each k n (first_found k n es))
    (entries_mild test s p es sorted.2 (λ l m h. each l m (later_found k l n m es sorted.0 h)))

pub mild_map : (test : List ℕ → Option FaultCause) (names : TextForm) (s : Schema) (f : Form)
    → ((k : List ℕ) → AcceptsText names k → IsMildIf (test k)) → MildAll s f
    → MildAll (map_of test s) (a_map names no_fields f)
mild_map test names s f named all = record { mild = go }
  where
    go : (p : List ℕ) (n : Node) → IsSorted n → Accepts (a_map names no_fields f) n
        → AreMild (faults (map_of test s) p n)
    go p (table es) sorted met = entries_mild test s p es sorted
        (λ k n there. mild_append (at (below p k) (test k)) (faults s (below p k) n)
        (mild_at (below p k) (test k) (named k (met.1 k n there).0))
        (all.mild _ n (found_sorted k es n sorted there) ((met.1 k n there).1 refl)))
    go p (array ns) sorted met = absurd met
    go p (text t) sorted met = absurd met
    go p (int z) sorted met = absurd met
    go p (bool b) sorted met = absurd met
    go p opaque sorted met = absurd met

-- a map with a form of its own at one name
pub mild_map_but : (test : List ℕ → Option FaultCause) (names : TextForm) (l : Key) (s : Schema) (g f : Form)
    → ((k : List ℕ) → AcceptsText names k → IsMildIf (test k)) → MildAll s g → MildAll s f
    → MildAll (map_of test s) (a_map names (a_field l false g no_fields) f)
mild_map_but test names l s g f named own all = record { mild = go }
  where
    by_name : (k : List ℕ) (n : Node) (es : Entries) (b : Bool) → is_one_of (key_text l ∷ []) k ≡ b
        → get k es ≡ Some n → IsSorted n → MeetsAt false (Accepts g) (get (key_text l) es)
        → (is_one_of (key_text l ∷ []) k ≡ false → Accepts f n) → (p : List ℕ) → AreMild (faults s p n)
    by_name k n es false is there sorted at_own other p = all.mild p n sorted (other is)
    by_name k n es true is there sorted at_own other p =
        let same : key_text l ≡ k = (bytes_eq-Decides (key_text l) k).0 (only (bytes_eq (key_text l) k) is) in
        let at_key : get (key_text l) es ≡ Some n = ap (λ j. get j es) same ∙ there in
        own.mild p n sorted (let P : Option Node → Type 0 = MeetsAt false (Accepts g) in subst P at_key at_own)

    go : (p : List ℕ) (n : Node) → IsSorted n → Accepts (a_map names (a_field l false g no_fields) f) n
        → AreMild (faults (map_of test s) p n)
    go p (table es) sorted met = entries_mild test s p es sorted
        (λ k n there. mild_append (at (below p k) (test k)) (faults s (below p k) n)
        (mild_at (below p k) (test k) (named k (met.1 k n there).0))
        (by_name k n es (is_one_of (key_text l ∷ []) k) refl there (found_sorted k es n sorted there)
        met.0.0 (met.1 k n there).1 _))
    go p (array ns) sorted met = absurd met
    go p (text t) sorted met = absurd met
    go p (int z) sorted met = absurd met
    go p (bool b) sorted met = absurd met
    go p opaque sorted met = absurd met
