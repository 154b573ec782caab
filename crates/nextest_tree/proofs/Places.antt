-- The faults of a tree strictly ascend in the order of places.
use Rattle.std.proofs.Common.{◌≡◌, ℕ, List, [], ◌∷◌, ◌++◌, ◌+◌, ◌<◌, map, filter, not, Bool, true, false, cond, Option, Some, None, refl, sym, ap, ◌∙◌, subst, nat_cmp, Ordering, Less, Equal, Greater, arith}
use Rattle.std.specs.Ordering.{match_ordering}
use Rattle.std.specs.Cmp.Lexicographic.{slice_cmp}
use Rattle.std.specs.Fmt.{decimal}
use Rattle.nextest_tree.specs.declared.key.Key.{Key}
use Rattle.nextest_tree.specs.Key.{key_text}
use Rattle.nextest_tree.specs.Node.{Node, table, array, text, int, bool, opaque, Nodes, no_nodes, node, Entries, no_entries, entry, get, keys, PrecedesKeys, IsSorted, NodesAreSorted, EntriesAreSorted}
use Rattle.nextest_tree.specs.Schema.{FaultCause, unknown_field, Fault, below, at, Others, are_noted, are_refused, Schema, any, leaf, fields, map_of, items_of, Fields, no_more, field, names_of, is_one_of, others, others_faults, faults, fields_faults, field_faults, each_item, each_entry}
use Rattle.nextest_tree.specs.Place.{Step, other_key, in_field, all_fields, at_key, the_key, the_value, at_position, all_items, Place, IsFirstStep, refused_by_bytes, refused_before_field, refused_before_all, by_field_order, field_before_all, by_bytes, key_before_value, by_position, item_before_all, here, later, SitedCause, StandsBeforeAll, Ascends, path_after, path_from, fault_at_place, cause_here, below_step, field_causes, other_causes, item_causes, entry_causes, sited_causes, fields_causes, HasOrderedFaults}

-- ---- each fault is a cause at its place

map-append : {A B : Type 0} (f : A → B) (xs ys : List A) → map f (xs ++ ys) ≡ map f xs ++ map f ys
map-append f [] ys = refl
map-append f (x ∷ xs) ys = ap (λ r. f x ∷ r) (map-append f xs ys)

render-under : (p : List ℕ) (a : Step) (xs : List SitedCause)
    → map (fault_at_place p) (below_step a xs) ≡ map (fault_at_place (path_after p a)) xs
render-under p a [] = refl
render-under p a (x ∷ xs) =
    ap (λ r. let f : Fault = record { path = path_from (path_after p a) x.place; cause = x.cause } in f ∷ r)
    (render-under p a xs)

render-here : (p : List ℕ) (c : Option FaultCause) → at p c ≡ map (fault_at_place p) (cause_here c)
render-here p None = refl
render-here p (Some c) = refl

both : {xs us : List Fault} {ys vs : List Fault} → xs ≡ us → ys ≡ vs → xs ++ ys ≡ us ++ vs
both e f = rw (e, f) refl

render-both : (p : List ℕ) (xs ys : List Fault) (us vs : List SitedCause) → xs ≡ map (fault_at_place p) us
    → ys ≡ map (fault_at_place p) vs → xs ++ ys ≡ map (fault_at_place p) (us ++ vs)
render-both p xs ys us vs e f = both e f ∙ sym (map-append (fault_at_place p) us vs)

render-others : (p : List ℕ) (ks : List (List ℕ))
    → map (λ k. let f : Fault = record { path = below p k; cause = unknown_field } in f) ks
    ≡ map (fault_at_place p) (other_causes are_refused ks)
render-others p [] = refl
render-others p (k ∷ ks) =
    ap (λ r. let f : Fault = record { path = below p k; cause = unknown_field } in f ∷ r) (render-others p ks)

others-at : (how : Others) (names : List Key) (p : List ℕ) (es : Entries)
    → others_faults how names p es ≡ map (fault_at_place p) (other_causes how (others names es))
others-at are_noted names p es = refl
others-at are_refused names p es = render-others p (others names es)

field-at : (k : Key) (must : Bool) (f : List ℕ → Node → List Fault) (g : Node → List SitedCause) (p : List ℕ)
    (o : Option Node) → ((q : List ℕ) (n : Node) → f q n ≡ map (fault_at_place q) (g n))
    → field_faults k must f p o ≡ map (fault_at_place p) (field_causes k must g o)
unfolding field_faults field_causes
field-at k true f g p None h = refl
field-at k false f g p None h = refl
field-at k must f g p (Some n) h = h (below p (key_text k)) n ∙ sym (render-under p (at_key (key_text k)) (g n))

items-at : (f : List ℕ → Node → List Fault) (g : Node → List SitedCause) (p : List ℕ) (i : ℕ) (ns : Nodes)
    → ((q : List ℕ) (n : Node) → f q n ≡ map (fault_at_place q) (g n))
    → each_item f p i ns ≡ map (fault_at_place p) (item_causes g i ns)
items-at f g p i no_nodes h = refl
items-at f g p i (node n ns) h =
    render-both p _ _ (below_step (at_position i) (g n)) (item_causes g (i + 1) ns)
    (h (below p (decimal i)) n ∙ sym (render-under p (at_position i) (g n))) (items-at f g p (i + 1) ns h)

one-entry-at : (c : Option FaultCause) (p : List ℕ) (xs : List Fault) (us : List SitedCause)
    → xs ≡ map (fault_at_place p) us
    → at p c ++ xs ≡ map (fault_at_place p) (below_step the_key (cause_here c) ++ below_step the_value us)
one-entry-at c p xs us e =
    render-both p (at p c) xs (below_step the_key (cause_here c)) (below_step the_value us)
    (render-here p c ∙ sym (render-under p the_key (cause_here c))) (e ∙ sym (render-under p the_value us))

entries-at : (test : List ℕ → Option FaultCause) (f : List ℕ → Node → List Fault) (g : Node → List SitedCause)
    (p : List ℕ) (es : Entries) → ((q : List ℕ) (n : Node) → f q n ≡ map (fault_at_place q) (g n))
    → each_entry (λ k n. at (below p k) (test k) ++ f (below p k) n) es
    ≡ map (fault_at_place p) (entry_causes test g es)
entries-at test f g p no_entries h = refl
entries-at test f g p (entry k n es) h =
    let inner = below_step the_key (cause_here (test k)) ++ below_step the_value (g n) in
    render-both p _ _ (below_step (at_key k) inner) (entry_causes test g es)
    (one-entry-at (test k) (below p k) (f (below p k) n) (g n) (h (below p k) n)
    ∙ sym (render-under p (at_key k) inner))
    (entries-at test f g p es h)

mutual
  pub faults-at : (s : Schema) (p : List ℕ) (n : Node) → faults s p n ≡ map (fault_at_place p) (sited_causes s n)
  faults-at any p n = refl
  faults-at (leaf test) p n = render-here p (test n)
  faults-at (fields how other fs across) p (table es) =
      render-both p _ _ (other_causes how (others (names_of fs) es)) _ (others-at how (names_of fs) p es)
      (render-both p _ _ (fields_causes 0 fs es) (below_step all_fields (cause_here (across es)))
      (fields-at fs p 0 es) (render-here p (across es) ∙ sym (render-under p all_fields (cause_here (across es)))))
  faults-at (fields how other fs across) p (array ns) = faults-at other p (array ns)
  faults-at (fields how other fs across) p (text t) = faults-at other p (text t)
  faults-at (fields how other fs across) p (int z) = faults-at other p (int z)
  faults-at (fields how other fs across) p (bool b) = faults-at other p (bool b)
  faults-at (fields how other fs across) p opaque = faults-at other p opaque
  faults-at (map_of test s) p (table es) = entries-at test (faults s) (sited_causes s) p es (faults-at s)
  faults-at (map_of test s) p (array ns) = refl
  faults-at (map_of test s) p (text t) = refl
  faults-at (map_of test s) p (int z) = refl
  faults-at (map_of test s) p (bool b) = refl
  faults-at (map_of test s) p opaque = refl
  faults-at (items_of other s across) p (array ns) =
      render-both p _ _ (item_causes (sited_causes s) 0 ns) (below_step all_items (cause_here (across ns)))
      (items-at (faults s) (sited_causes s) p 0 ns (faults-at s))
      (render-here p (across ns) ∙ sym (render-under p all_items (cause_here (across ns))))
  faults-at (items_of other s across) p (table es) = faults-at other p (table es)
  faults-at (items_of other s across) p (text t) = faults-at other p (text t)
  faults-at (items_of other s across) p (int z) = faults-at other p (int z)
  faults-at (items_of other s across) p (bool b) = faults-at other p (bool b)
  faults-at (items_of other s across) p opaque = faults-at other p opaque

  fields-at : (fs : Fields) (p : List ℕ) (i : ℕ) (es : Entries)
      → fields_faults fs p es ≡ map (fault_at_place p) (fields_causes i fs es)
  fields-at no_more p i es = refl
  fields-at (field k must s fs) p i es =
      let one = field_causes k (must es) (sited_causes s) (get (key_text k) es) in
      render-both p _ _ (below_step (in_field i) one) (fields_causes (i + 1) fs es)
      (field-at k (must es) (faults s) (sited_causes s) p (get (key_text k) es) (faults-at s)
      ∙ sym (render-under p (in_field i) one))
      (fields-at fs p (i + 1) es)

-- ---- the places ascend

-- each of the first is before all of the second
abbrev AllStandBefore : List SitedCause → List SitedCause → Type 0
AllStandBefore [] ys = Unit {0}
AllStandBefore (x ∷ xs) ys = StandsBeforeAll x.place ys × AllStandBefore xs ys

before-append : (p : Place) (xs ys : List SitedCause) → StandsBeforeAll p xs → StandsBeforeAll p ys
    → StandsBeforeAll p (xs ++ ys)
before-append p [] ys h k = k
before-append p (x ∷ xs) ys h k = (h.0, before-append p xs ys h.1 k)

ascends-append : (xs ys : List SitedCause) → Ascends xs → Ascends ys → AllStandBefore xs ys → Ascends (xs ++ ys)
ascends-append [] ys a b h = b
ascends-append (x ∷ xs) ys a b h = (before-append x.place xs ys a.0 h.0, ascends-append xs ys a.1 b h.1)

before-under : (p : Place) (a : Step) (xs : List SitedCause) → StandsBeforeAll p xs
    → StandsBeforeAll (a ∷ p) (below_step a xs)
before-under p a [] h = tt
before-under p a (x ∷ xs) h = (later h.0, before-under p a xs h.1)

ascends-under : (a : Step) (xs : List SitedCause) → Ascends xs → Ascends (below_step a xs)
ascends-under a [] h = tt
ascends-under a (x ∷ xs) h = (before-under x.place a xs h.0, ascends-under a xs h.1)

-- a step that comes first
before-step : (p : Place) (a b : Step) (xs : List SitedCause) → IsFirstStep a b
    → StandsBeforeAll (a ∷ p) (below_step b xs)
before-step p a b [] h = tt
before-step p a b (x ∷ xs) h = (here h, before-step p a b xs h)

all-under : (a : Step) (xs ys : List SitedCause) → ((p : Place) → StandsBeforeAll (a ∷ p) ys)
    → AllStandBefore (below_step a xs) ys
all-under a [] ys h = tt
all-under a (x ∷ xs) ys h = (h x.place, all-under a xs ys h)

all-append : (xs ys zs : List SitedCause) → AllStandBefore xs zs → AllStandBefore ys zs → AllStandBefore (xs ++ ys) zs
all-append [] ys zs h k = k
all-append (x ∷ xs) ys zs h k = (h.0, all-append xs ys zs h.1 k)

ascends-here : (c : Option FaultCause) → Ascends (cause_here c)
ascends-here None = tt
ascends-here (Some c) = (tt, tt)

-- fields
before-fields : (p : Place) (i j : ℕ) (fs : Fields) (es : Entries) → i < j
    → StandsBeforeAll (in_field i ∷ p) (fields_causes j fs es)
before-fields p i j no_more es h = tt
before-fields p i j (field k must s fs) es h =
    before-append (in_field i ∷ p) (below_step (in_field j) _) (fields_causes (j + 1) fs es)
    (before-step p (in_field i) (in_field j) _ (by_field_order h)) (before-fields p i (j + 1) fs es (omega arith))

key-before-fields : (k : List ℕ) (p : Place) (i : ℕ) (fs : Fields) (es : Entries)
    → StandsBeforeAll (other_key k ∷ p) (fields_causes i fs es)
key-before-fields k p i no_more es = tt
key-before-fields k p i (field l must s fs) es =
    before-append (other_key k ∷ p) (below_step (in_field i) _) (fields_causes (i + 1) fs es)
    (before-step p (other_key k) (in_field i) _ refused_before_field) (key-before-fields k p (i + 1) fs es)

fields-before-all : (i : ℕ) (fs : Fields) (es : Entries) (xs : List SitedCause)
    → AllStandBefore (fields_causes i fs es) (below_step all_fields xs)
fields-before-all i no_more es xs = tt
fields-before-all i (field k must s fs) es xs =
    all-append (below_step (in_field i) _) (fields_causes (i + 1) fs es) (below_step all_fields xs)
    (all-under (in_field i) _ (below_step all_fields xs)
    (λ p. before-step p (in_field i) all_fields xs field_before_all))
    (fields-before-all (i + 1) fs es xs)

field-ascends : (k : Key) (must : Bool) (g : Node → List SitedCause) (o : Option Node)
    → ((n : Node) → o ≡ Some n → Ascends (g n)) → Ascends (field_causes k must g o)
unfolding field_causes
field-ascends k true g None h = (tt, tt)
field-ascends k false g None h = tt
field-ascends k must g (Some n) h = ascends-under (at_key (key_text k)) (g n) (h n refl)

-- what a table holds at a key is sorted where the table is
abbrev IfSorted : Option Node → Type 0
IfSorted None = Unit {0}
IfSorted (Some n) = IsSorted n

sorted-by : (o : Ordering) (m : Node) (d : Option Node) → IsSorted m → IfSorted d
    → IfSorted (match_ordering o d (Some m) d)
sorted-by Less m d h k = k
sorted-by Equal m d h k = h
sorted-by Greater m d h k = k

found-sorted : (k : List ℕ) (es : Entries) → EntriesAreSorted es → IfSorted (get k es)
found-sorted k no_entries h = tt
found-sorted k (entry l m es) h = sorted-by (slice_cmp nat_cmp k l) m (get k es) h.1 (found-sorted k es h.2)

get-sorted : (k : List ℕ) (es : Entries) (n : Node) → EntriesAreSorted es → get k es ≡ Some n → IsSorted n
get-sorted k es n h e = subst IfSorted e (found-sorted k es h)

-- items
before-items : (p : Place) (g : Node → List SitedCause) (i j : ℕ) (ns : Nodes) → i < j
    → StandsBeforeAll (at_position i ∷ p) (item_causes g j ns)
before-items p g i j no_nodes h = tt
before-items p g i j (node n ns) h =
    before-append (at_position i ∷ p) (below_step (at_position j) (g n)) (item_causes g (j + 1) ns)
    (before-step p (at_position i) (at_position j) (g n) (by_position h)) (before-items p g i (j + 1) ns (omega arith))

items-ascend : (g : Node → List SitedCause) (i : ℕ) (ns : Nodes) → ((n : Node) → IsSorted n → Ascends (g n))
    → NodesAreSorted ns → Ascends (item_causes g i ns)
items-ascend g i no_nodes h s = tt
items-ascend g i (node n ns) h s =
    ascends-append (below_step (at_position i) (g n)) (item_causes g (i + 1) ns)
    (ascends-under (at_position i) (g n) (h n s.0)) (items-ascend g (i + 1) ns h s.1)
    (all-under (at_position i) (g n) (item_causes g (i + 1) ns) (λ p. before-items p g i (i + 1) ns (omega arith)))

items-before-all : (g : Node → List SitedCause) (i : ℕ) (ns : Nodes) (xs : List SitedCause)
    → AllStandBefore (item_causes g i ns) (below_step all_items xs)
items-before-all g i no_nodes xs = tt
items-before-all g i (node n ns) xs =
    all-append (below_step (at_position i) (g n)) (item_causes g (i + 1) ns) (below_step all_items xs)
    (all-under (at_position i) (g n) (below_step all_items xs)
    (λ p. before-step p (at_position i) all_items xs item_before_all))
    (items-before-all g (i + 1) ns xs)

-- entries
before-entries : (p : Place) (k : List ℕ) (test : List ℕ → Option FaultCause) (g : Node → List SitedCause)
    (es : Entries) → PrecedesKeys k es → StandsBeforeAll (at_key k ∷ p) (entry_causes test g es)
before-entries p k test g no_entries h = tt
before-entries p k test g (entry l n es) h =
    before-append (at_key k ∷ p) (below_step (at_key l) _) (entry_causes test g es)
    (before-step p (at_key k) (at_key l) _ (by_bytes h.0)) (before-entries p k test g es h.1)

entry-ascends : (c : Option FaultCause) (xs : List SitedCause) → Ascends xs
    → Ascends (below_step the_key (cause_here c) ++ below_step the_value xs)
entry-ascends c xs h =
    ascends-append (below_step the_key (cause_here c)) (below_step the_value xs)
    (ascends-under the_key (cause_here c) (ascends-here c)) (ascends-under the_value xs h)
    (all-under the_key (cause_here c) (below_step the_value xs)
    (λ p. before-step p the_key the_value xs key_before_value))

entries-ascend : (test : List ℕ → Option FaultCause) (g : Node → List SitedCause) (es : Entries)
    → ((n : Node) → IsSorted n → Ascends (g n)) → EntriesAreSorted es → Ascends (entry_causes test g es)
entries-ascend test g no_entries h s = tt
entries-ascend test g (entry k n es) h s =
    let inner = below_step the_key (cause_here (test k)) ++ below_step the_value (g n) in
    ascends-append (below_step (at_key k) inner) (entry_causes test g es)
    (ascends-under (at_key k) inner (entry-ascends (test k) (g n) (h n s.1))) (entries-ascend test g es h s.2)
    (all-under (at_key k) inner (entry_causes test g es) (λ p. before-entries p k test g es s.0))

-- refused keys
abbrev AllAfter : List ℕ → List (List ℕ) → Type 0
AllAfter k [] = Unit {0}
AllAfter k (l ∷ ls) = (slice_cmp nat_cmp k l ≡ Less) × AllAfter k ls

after-by : (b : Bool) (k l : List ℕ) (ls : List (List ℕ)) → slice_cmp nat_cmp k l ≡ Less → AllAfter k ls
    → AllAfter k (cond b (l ∷ ls) ls)
after-by true k l ls h hs = (h, hs)
after-by false k l ls h hs = hs

after-filter : (p : List ℕ → Bool) (k : List ℕ) (es : Entries) → PrecedesKeys k es → AllAfter k (filter p (keys es))
after-filter p k no_entries h = tt
after-filter p k (entry l n es) h = after-by (p l) k l (filter p (keys es)) h.0 (after-filter p k es h.1)

before-keys : (p : Place) (k : List ℕ) (ks : List (List ℕ)) → AllAfter k ks
    → StandsBeforeAll (other_key k ∷ p) (other_causes are_refused ks)
before-keys p k [] h = tt
before-keys p k (l ∷ ks) h = (here (refused_by_bytes h.0), before-keys p k ks h.1)

keys-by : (b : Bool) (k : List ℕ) (ks : List (List ℕ)) → AllAfter k ks → Ascends (other_causes are_refused ks)
    → Ascends (other_causes are_refused (cond b (k ∷ ks) ks))
keys-by true k ks h a = (before-keys [] k ks h, a)
keys-by false k ks h a = a

keys-ascend : (p : List ℕ → Bool) (es : Entries) → EntriesAreSorted es
    → Ascends (other_causes are_refused (filter p (keys es)))
keys-ascend p no_entries h = tt
keys-ascend p (entry k n es) h = keys-by (p k) k (filter p (keys es)) (after-filter p k es h.0) (keys-ascend p es h.2)

others-ascend : (how : Others) (names : List Key) (es : Entries) → EntriesAreSorted es
    → Ascends (other_causes how (others names es))
others-ascend are_noted names es h = tt
others-ascend are_refused names es h = keys-ascend (λ k. not (is_one_of (map key_text names) k)) es h

others-before : (how : Others) (ks : List (List ℕ)) (fs : Fields) (es : Entries) (xs : List SitedCause)
    → AllStandBefore (other_causes how ks) (fields_causes 0 fs es ++ below_step all_fields xs)
others-before are_noted ks fs es xs = tt
others-before are_refused [] fs es xs = tt
others-before are_refused (k ∷ ks) fs es xs = (
  before-append (other_key k ∷ []) (fields_causes 0 fs es) (below_step all_fields xs)
      (key-before-fields k [] 0 fs es) (before-step [] (other_key k) all_fields xs refused_before_all),
  others-before are_refused ks fs es xs,
)

mutual
  pub sited_causes-ascends : (s : Schema) (n : Node) → IsSorted n → Ascends (sited_causes s n)
  sited_causes-ascends any n h = tt
  sited_causes-ascends (leaf test) n h = ascends-here (test n)
  sited_causes-ascends (fields how other fs across) (table es) h =
      let last = cause_here (across es) in
      ascends-append (other_causes how (others (names_of fs) es))
      (fields_causes 0 fs es ++ below_step all_fields last) (others-ascend how (names_of fs) es h)
      (ascends-append (fields_causes 0 fs es) (below_step all_fields last) (fields-ascend 0 fs es h)
      (ascends-under all_fields last (ascends-here (across es))) (fields-before-all 0 fs es last))
      (others-before how (others (names_of fs) es) fs es last)
  sited_causes-ascends (fields how other fs across) (array ns) h = sited_causes-ascends other (array ns) h
  sited_causes-ascends (fields how other fs across) (text t) h = sited_causes-ascends other (text t) h
  sited_causes-ascends (fields how other fs across) (int z) h = sited_causes-ascends other (int z) h
  sited_causes-ascends (fields how other fs across) (bool b) h = sited_causes-ascends other (bool b) h
  sited_causes-ascends (fields how other fs across) opaque h = sited_causes-ascends other opaque h
  sited_causes-ascends (map_of test s) (table es) h = entries-ascend test (sited_causes s) es (sited_causes-ascends s) h
  sited_causes-ascends (map_of test s) (array ns) h = (tt, tt)
  sited_causes-ascends (map_of test s) (text t) h = (tt, tt)
  sited_causes-ascends (map_of test s) (int z) h = (tt, tt)
  sited_causes-ascends (map_of test s) (bool b) h = (tt, tt)
  sited_causes-ascends (map_of test s) opaque h = (tt, tt)
  sited_causes-ascends (items_of other s across) (array ns) h =
      let last = cause_here (across ns) in
      ascends-append (item_causes (sited_causes s) 0 ns) (below_step all_items last)
      (items-ascend (sited_causes s) 0 ns (sited_causes-ascends s) h)
      (ascends-under all_items last (ascends-here (across ns))) (items-before-all (sited_causes s) 0 ns last)
  sited_causes-ascends (items_of other s across) (table es) h = sited_causes-ascends other (table es) h
  sited_causes-ascends (items_of other s across) (text t) h = sited_causes-ascends other (text t) h
  sited_causes-ascends (items_of other s across) (int z) h = sited_causes-ascends other (int z) h
  sited_causes-ascends (items_of other s across) (bool b) h = sited_causes-ascends other (bool b) h
  sited_causes-ascends (items_of other s across) opaque h = sited_causes-ascends other opaque h

  fields-ascend : (i : ℕ) (fs : Fields) (es : Entries) → EntriesAreSorted es → Ascends (fields_causes i fs es)
  fields-ascend i no_more es h = tt
  fields-ascend i (field k must s fs) es h =
      let one = field_causes k (must es) (sited_causes s) (get (key_text k) es) in
      ascends-append (below_step (in_field i) one) (fields_causes (i + 1) fs es)
      (ascends-under (in_field i) one
      (field-ascends k (must es) (sited_causes s) (get (key_text k) es)
      (λ n e. sited_causes-ascends s n (get-sorted (key_text k) es n h e))))
      (fields-ascend (i + 1) fs es h)
      (all-under (in_field i) one (fields_causes (i + 1) fs es) (λ p. before-fields p i (i + 1) fs es (omega arith)))

pub ordered_faults : (s : Schema) → HasOrderedFaults s
ordered_faults s p n h = record { at_places = faults-at s p n; ascending = sited_causes-ascends s n h }
