-- A form fits a schema: it accepts each node in which the schema finds no fault and knows each key.
use Rattle.std.proofs.Common.{◌≡◌, ℕ, ◌+◌, List, [], ◌∷◌, ◌++◌, Bool, true, false, Option, Some, None, Ordering, Less, Equal, Greater, inl, inr, refl, sym, ap, ◌∙◌}
use Rattle.std.specs.Fmt.{decimal}
use Rattle.std.specs.Ordering.{match_ordering}
use Rattle.nextest_tree.specs.declared.key.Key.{Key}
use Rattle.nextest_tree.specs.Key.{key_text}
use Rattle.nextest_tree.specs.Node.{Node, table, array, text, int, bool, opaque, Nodes, no_nodes, node, Entries, no_entries, entry, get}
use Rattle.nextest_tree.specs.Schema.{FaultCause, Schema, any, leaf, not_table, fields, Others, are_noted, are_refused, Fields, no_more, field, struct, map_of, items_of, list_of, below, at, each_item, each_entry, names_of, others, others_faults, others_unknown, faults, unknown, fields_faults, fields_unknown, field_faults, field_unknown}
use Rattle.nextest_documents.specs.Merge.{over, entries_over}
use Rattle.nextest_documents.proofs.Laying.{cmp, laid_over, get-entries_over}
use Rattle.nextest_tables.proofs.Free.{left_nil, right_nil, entry_free}
use Rattle.nextest_shape.specs.Accepts.{Accepts, AcceptsFields, AcceptsText, MeetsAt, HasNoOthers, AreItems}
use Rattle.nextest_shape.specs.FileForm.{one_or_other}
use Rattle.nextest_shape.specs.Form.{TextForm, Form, anything, an_array, a_table, a_map, FieldForms, no_fields, a_field, field_keys}
use Rattle.nextest_shape.proofs.Laid.{no_others_over, map_nil}

pub record Fits (s : Schema) (f : Form) : Type 0 where
  pub accepts : (p q : List ℕ) (n : Node) → faults s p n ≡ [] → unknown s q n ≡ [] → Accepts f n

-- A form fits a schema over a lower node: it accepts what has no fault and no unknown key once it
-- lies over that node.
pub record FitsOver (s : Schema) (d : Node) (f : Form) : Type 0 where
  pub accepts : (p q : List ℕ) (n : Node) → faults s p (over n d) ≡ [] → unknown s q (over n d) ≡ [] → Accepts f n

-- the same over what is at a key, if anything is
abbrev pub FitsUnder : Schema → Option Node → Form → Type 0
FitsUnder s None f = Fits s f
FitsUnder s (Some d) f = FitsOver s d f

-- a field may be required where the schema requires it and nothing is there below
abbrev pub MayRequire : (Entries → Bool) → Option Node → Bool → Type 0
MayRequire must lower false = Unit {0}
MayRequire must None true = (es : Entries) → must es ≡ true
MayRequire must (Some d) true = ⊥

-- the fields fit those of a schema over the entries of a lower table, key by key
abbrev pub FieldsFit : Fields → Entries → FieldForms → Type 0
FieldsFit no_more ds no_fields = Unit {0}
FieldsFit no_more ds (a_field l r f gs) = ⊥
FieldsFit (field k must s fs) ds no_fields = ⊥
FieldsFit (field k must s fs) ds (a_field l r f gs) =
    (k ≡ l) × MayRequire must (get (key_text k) ds) r × FitsUnder s (get (key_text k) ds) f × FieldsFit fs ds gs

-- ---- tables

-- what is at a key of a table that may lie over another
abbrev Lies : Entries → Entries → Entries → Type 0
Lies es ds xs = (k : List ℕ) → get k xs ≡ laid_over (get k es) (get k ds)

lies_alone : (o : Option Node) → o ≡ laid_over o None
lies_alone None = refl
lies_alone (Some n) = refl

field_meets : (k : Key) (must : Entries → Bool) (s : Schema) (f : Form) (r : Bool) (xs : Entries) (p q : List ℕ)
    (o lower : Option Node) → MayRequire must lower r → FitsUnder s lower f
    → field_faults k (must xs) (faults s) p (laid_over o lower) ≡ []
    → field_unknown k (unknown s) q (laid_over o lower) ≡ [] → MeetsAt r (Accepts f) o
unfolding field_faults field_unknown
field_meets k must s f false xs p q None lower may fit h u = refl
field_meets k must s f true xs p q None (Some d) may fit h u = absurd may
field_meets k must s f true xs p q None None may fit h u =
    let there : must xs ≡ true = may xs in
    let no = rw there at h in
    cc
field_meets k must s f r xs p q (Some n) None may fit h u = fit.accepts _ _ n h u
field_meets k must s f r xs p q (Some n) (Some d) may fit h u = fit.accepts _ _ n h u

fields_meet : (fs : Fields) (ds : Entries) (gs : FieldForms) (es xs : Entries) (p q : List ℕ) → Lies es ds xs
    → FieldsFit fs ds gs → fields_faults fs p xs ≡ [] → fields_unknown fs q xs ≡ [] → AcceptsFields gs es
fields_meet no_more ds no_fields es xs p q lies fit h u = tt
fields_meet no_more ds (a_field l r f gs) es xs p q lies fit h u = absurd fit
fields_meet (field k must s fs) ds no_fields es xs p q lies fit h u = absurd fit
fields_meet (field k must s fs) ds (a_field l r f gs) es xs p q lies fit h u =
    let here = field_faults k (must xs) (faults s) p (get (key_text k) xs) in
    let unknown_here = field_unknown k (unknown s) q (get (key_text k) xs) in
    let free : field_faults k (must xs) (faults s) p (laid_over (get (key_text k) es) (get (key_text k) ds)) ≡ [] =
    ap (field_faults k (must xs) (faults s) p) (sym (lies (key_text k))) ∙ left_nil here (fields_faults fs p xs) h in
    let known : field_unknown k (unknown s) q (laid_over (get (key_text k) es) (get (key_text k) ds)) ≡ [] =
    ap (field_unknown k (unknown s) q) (sym (lies (key_text k))) ∙ left_nil unknown_here (fields_unknown fs q xs) u in
    let met : MeetsAt r (Accepts f) (get (key_text k) es) =
    field_meets k must s f r xs p q (get (key_text k) es) (get (key_text k) ds) fit.1 fit.2 free known in (
      rw (← fit.0) met,
      fields_meet fs ds gs es xs p q lies fit.3 (right_nil here (fields_faults fs p xs) h)
          (right_nil unknown_here (fields_unknown fs q xs) u),
    )

same_keys : (fs : Fields) (ds : Entries) (gs : FieldForms) → FieldsFit fs ds gs → names_of fs ≡ field_keys gs
same_keys no_more ds no_fields fit = refl
same_keys no_more ds (a_field l r f gs) fit = absurd fit
same_keys (field k must s fs) ds no_fields fit = absurd fit
same_keys (field k must s fs) ds (a_field l r f gs) fit =
    rw fit.0 (ap (λ ks. l ∷ ks) (same_keys fs ds gs fit.3))

-- a table has no other keys, whether they are refused or noted
none_other : (how : Others) (names : List Key) (p q : List ℕ) (es : Entries) → others_faults how names p es ≡ []
    → others_unknown how names q es ≡ [] → others names es ≡ []
none_other are_noted names p q es h u = map_nil (below q) (others names es) u
none_other are_refused names p q es h u = map_nil _ (others names es) h

-- what a table of fields says
abbrev Meets : FieldForms → Entries → Type 0
Meets gs es = AcceptsFields gs es × HasNoOthers (field_keys gs) es

table_meets : (how : Others) (other : Schema) (fs : Fields) (across : Entries → Option FaultCause) (ds : Entries)
    (gs : FieldForms) (es xs : Entries) (p q : List ℕ) → Lies es ds xs
    → (others (names_of fs) xs ≡ [] → others (names_of fs) es ≡ []) → FieldsFit fs ds gs
    → faults (fields how other fs across) p (table xs) ≡ [] → unknown (fields how other fs across) q (table xs) ≡ []
    → Meets gs es
table_meets how other fs across ds gs es xs p q lies fewer fit h u =
    let refused = others_faults how (names_of fs) p xs in
    let noted = others_unknown how (names_of fs) q xs in
    let rest = fields_faults fs p xs ++ at p (across xs) in
    let free = left_nil (fields_faults fs p xs) (at p (across xs)) (right_nil refused rest h) in
    let known = left_nil (fields_unknown fs q xs) noted u in
    let none = none_other how (names_of fs) p q xs (left_nil refused rest h)
    (right_nil (fields_unknown fs q xs) noted u)
    in (
      fields_meet fs ds gs es xs p q lies fit free known,
      rw (← same_keys fs ds gs fit) (fewer none),
    )

alone_meets : (how : Others) (other : Schema) (fs : Fields) (across : Entries → Option FaultCause) (gs : FieldForms)
    (es : Entries) (p q : List ℕ) → FieldsFit fs no_entries gs
    → faults (fields how other fs across) p (table es) ≡ [] → unknown (fields how other fs across) q (table es) ≡ []
    → Meets gs es
alone_meets how other fs across gs es p q fit h u =
    table_meets how other fs across no_entries gs es es p q (λ k. lies_alone (get k es)) (λ none. none) fit h u

laid_meets : (how : Others) (other : Schema) (fs : Fields) (across : Entries → Option FaultCause) (ds : Entries)
    (gs : FieldForms) (es : Entries) (p q : List ℕ) → FieldsFit fs ds gs
    → faults (fields how other fs across) p (table (entries_over es ds)) ≡ []
    → unknown (fields how other fs across) q (table (entries_over es ds)) ≡ [] → Meets gs es
laid_meets how other fs across ds gs es p q fit h u =
    table_meets how other fs across ds gs es (entries_over es ds) p q (λ k. get-entries_over k es ds)
    (no_others_over (names_of fs) es ds) fit h u

pub fits_struct : (fs : Fields) (gs : FieldForms) → FieldsFit fs no_entries gs → Fits (struct fs) (a_table gs)
fits_struct fs gs fit = record { accepts = go }
  where
    go : (p q : List ℕ) (n : Node) → faults (struct fs) p n ≡ [] → unknown (struct fs) q n ≡ [] → Accepts (a_table gs) n
    go p q (table es) h u = alone_meets are_noted (leaf not_table) fs (λ es. None) gs es p q fit h u
    go p q (array ns) h u = cc
    go p q (text t) h u = cc
    go p q (int z) h u = cc
    go p q (bool b) h u = cc
    go p q opaque h u = cc

pub fits_struct_over : (fs : Fields) (ds : Entries) (gs : FieldForms) → FieldsFit fs ds gs
    → FitsOver (struct fs) (table ds) (a_table gs)
fits_struct_over fs ds gs fit = record { accepts = go }
  where
    go : (p q : List ℕ) (n : Node) → faults (struct fs) p (over n (table ds)) ≡ []
        → unknown (struct fs) q (over n (table ds)) ≡ [] → Accepts (a_table gs) n
    go p q (table es) h u = laid_meets are_noted (leaf not_table) fs (λ es. None) ds gs es p q fit h u
    go p q (array ns) h u = cc
    go p q (text t) h u = cc
    go p q (int z) h u = cc
    go p q (bool b) h u = cc
    go p q opaque h u = cc

-- a table, or something else
pub fits_or : (how : Others) (other : Schema) (fs : Fields) (across : Entries → Option FaultCause) (f : Form)
    (gs : FieldForms) → Fits other f → FieldsFit fs no_entries gs
    → Fits (fields how other fs across) (one_or_other f (a_table gs))
fits_or how other fs across f gs fit fields_fit = record { accepts = go }
  where
    go : (p q : List ℕ) (n : Node) → faults (fields how other fs across) p n ≡ []
        → unknown (fields how other fs across) q n ≡ [] → Accepts (one_or_other f (a_table gs)) n
    go p q (table es) h u = inr (inl (alone_meets how other fs across gs es p q fields_fit h u))
    go p q (array ns) h u = inl (fit.accepts p q (array ns) h u)
    go p q (text t) h u = inl (fit.accepts p q (text t) h u)
    go p q (int z) h u = inl (fit.accepts p q (int z) h u)
    go p q (bool b) h u = inl (fit.accepts p q (bool b) h u)
    go p q opaque h u = inl (fit.accepts p q opaque h u)

pub fits_or_over : (how : Others) (other : Schema) (fs : Fields) (across : Entries → Option FaultCause) (ds : Entries)
    (f : Form) (gs : FieldForms) → Fits other f → FieldsFit fs ds gs
    → FitsOver (fields how other fs across) (table ds) (one_or_other f (a_table gs))
fits_or_over how other fs across ds f gs fit fields_fit = record { accepts = go }
  where
    go : (p q : List ℕ) (n : Node) → faults (fields how other fs across) p (over n (table ds)) ≡ []
        → unknown (fields how other fs across) q (over n (table ds)) ≡ [] → Accepts (one_or_other f (a_table gs)) n
    go p q (table es) h u = inr (inl (laid_meets how other fs across ds gs es p q fields_fit h u))
    go p q (array ns) h u = inl (fit.accepts p q (array ns) h u)
    go p q (text t) h u = inl (fit.accepts p q (text t) h u)
    go p q (int z) h u = inl (fit.accepts p q (int z) h u)
    go p q (bool b) h u = inl (fit.accepts p q (bool b) h u)
    go p q opaque h u = inl (fit.accepts p q opaque h u)

-- ---- over what is not a table

abbrev pub IsFlat : Node → Type 0
IsFlat (table es) = ⊥
IsFlat _ = Unit {0}

over_flat : (n d : Node) → IsFlat d → over n d ≡ n
over_flat (table es) (table ds) flat = absurd flat
over_flat (table es) (array ns) flat = refl
over_flat (table es) (text t) flat = refl
over_flat (table es) (int z) flat = refl
over_flat (table es) (bool b) flat = refl
over_flat (table es) opaque flat = refl
over_flat (array ns) d flat = refl
over_flat (text t) d flat = refl
over_flat (int z) d flat = refl
over_flat (bool b) d flat = refl
over_flat opaque d flat = refl

pub fits_flat : (s : Schema) (d : Node) (f : Form) → IsFlat d → Fits s f → FitsOver s d f
fits_flat s d f flat fit = record {
  accepts = λ p q n h u. fit.accepts p q n (ap (faults s p) (sym (over_flat n d flat)) ∙ h)
      (ap (unknown s q) (sym (over_flat n d flat)) ∙ u);
}

-- ---- what is never looked into, arrays and maps

pub fits_any : Fits any anything
fits_any = record { accepts = λ p q n h u. tt }

pub items_meet : (s : Schema) (f : Form) (p q : List ℕ) (i j : ℕ) (ns : Nodes) → Fits s f
    → each_item (faults s) p i ns ≡ [] → each_item (unknown s) q j ns ≡ [] → AreItems (Accepts f) 0 ns
items_meet s f p q i j no_nodes fit h u = refl
items_meet s f p q i j (node n ns) fit h u =
    let here = faults s (below p (decimal i)) n in
    let unknown_here = unknown s (below q (decimal j)) n in
    let rest = each_item (faults s) p (i + 1) ns in
    let unknown_rest = each_item (unknown s) q (j + 1) ns in (
      fit.accepts _ _ n (left_nil here rest h) (left_nil unknown_here unknown_rest u),
      items_meet s f p q (i + 1) (j + 1) ns fit (right_nil here rest h) (right_nil unknown_here unknown_rest u),
    )

-- an array, or something else
pub fits_items : (other s : Schema) (f g : Form) → Fits other f → Fits s g
    → Fits (items_of other s (λ ns. None)) (one_or_other f (an_array 0 g))
fits_items other s f g fit each = record { accepts = go }
  where
    list : Schema
    list = items_of other s (λ ns. None)

    go : (p q : List ℕ) (n : Node) → faults list p n ≡ [] → unknown list q n ≡ []
        → Accepts (one_or_other f (an_array 0 g)) n
    go p q (array ns) h u =
        inr (inl (items_meet s g p q 0 0 ns each (left_nil (each_item (faults s) p 0 ns) [] h) u))
    go p q (table es) h u = inl (fit.accepts p q (table es) h u)
    go p q (text t) h u = inl (fit.accepts p q (text t) h u)
    go p q (int z) h u = inl (fit.accepts p q (int z) h u)
    go p q (bool b) h u = inl (fit.accepts p q (bool b) h u)
    go p q opaque h u = inl (fit.accepts p q opaque h u)

-- an array
pub fits_list : (s : Schema) (f : Form) → Fits s f → Fits (list_of s) (an_array 0 f)
fits_list s f each = record { accepts = go }
  where
    go : (p q : List ℕ) (n : Node) → faults (list_of s) p n ≡ [] → unknown (list_of s) q n ≡ []
        → Accepts (an_array 0 f) n
    go p q (array ns) h u = items_meet s f p q 0 0 ns each (left_nil (each_item (faults s) p 0 ns) [] h) u
    go p q (table es) h u = cc
    go p q (text t) h u = cc
    go p q (int z) h u = cc
    go p q (bool b) h u = cc
    go p q opaque h u = cc

-- what is at a key of a map has no unknown keys
pub entry_known : (test : List ℕ → Option FaultCause) (s : Schema) (q k : List ℕ) (es : Entries) (n : Node)
    → unknown (map_of test s) q (table es) ≡ [] → get k es ≡ Some n → (r : List ℕ) × (unknown s r n ≡ [])
entry_known test s q k no_entries n h g = cc
entry_known test s q k (entry l m es) n h g =
    let here = unknown s (below q l) m in
    let rest = each_entry (λ k n. unknown s (below q k) n) es in
    by_order (cmp k l) g (left_nil here rest h) (entry_known test s q k es n (right_nil here rest h))
  where
    by_order : (o : Ordering) → match_ordering o (get k es) (Some m) (get k es) ≡ Some n
        → unknown s (below q l) m ≡ [] → (get k es ≡ Some n → (r : List ℕ) × (unknown s r n ≡ []))
        → (r : List ℕ) × (unknown s r n ≡ [])
    by_order Less g known more = more g
    by_order Equal g known more = let same : m ≡ n = cc in (below q l, rw (← same) known)
    by_order Greater g known more = more g

no_cause : (p : List ℕ) (c : Option FaultCause) → at p c ≡ [] → c ≡ None
no_cause p None h = refl
no_cause p (Some c) h = cc

-- a key of a map passes its test
key_free : (test : List ℕ → Option FaultCause) (s : Schema) (p k : List ℕ) (es : Entries) (n : Node)
    → ((a b : List ℕ) → cmp a b ≡ Equal → a ≡ b)
    → faults (map_of test s) p (table es) ≡ [] → get k es ≡ Some n → test k ≡ None
key_free test s p k no_entries n exact h g = cc
key_free test s p k (entry l m es) n exact h g =
    let mine = at (below p l) (test l) in
    let here = mine ++ faults s (below p l) m in
    let rest = each_entry (λ k n. at (below p k) (test k) ++ faults s (below p k) n) es in
    let free = no_cause (below p l) (test l) (left_nil mine (faults s (below p l) m) (left_nil here rest h)) in
    by_order (cmp k l) refl g free (key_free test s p k es n exact (right_nil here rest h))
  where
    by_order : (o : Ordering) → cmp k l ≡ o → match_ordering o (get k es) (Some m) (get k es) ≡ Some n
        → test l ≡ None → (get k es ≡ Some n → test k ≡ None) → test k ≡ None
    by_order Less is g free more = more g
    by_order Equal is g free more = rw (exact k l is) free
    by_order Greater is g free more = more g

pub fits_map : (test : List ℕ → Option FaultCause) (names : TextForm) (s : Schema) (f : Form)
    → ((a b : List ℕ) → cmp a b ≡ Equal → a ≡ b) → ((k : List ℕ) → test k ≡ None → AcceptsText names k)
    → Fits s f → Fits (map_of test s) (a_map names no_fields f)
fits_map test names s f exact named fit = record { accepts = go }
  where
    go : (p q : List ℕ) (n : Node) → faults (map_of test s) p n ≡ [] → unknown (map_of test s) q n ≡ []
        → Accepts (a_map names no_fields f) n
    go p q (table es) h u = (
      tt,
      λ k n there. (
        named k (key_free test s p k es n exact h there),
        λ other. let free = entry_free test s p k es n h there in
            let known = entry_known test s q k es n u there in
            fit.accepts free.0 known.0 n free.1 known.1,
      ),
    )
    go p q (array ns) h u = cc
    go p q (text t) h u = cc
    go p q (int z) h u = cc
    go p q (bool b) h u = cc
    go p q opaque h u = cc
