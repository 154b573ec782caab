-- No definition takes away what is in a document, in arrays as in tables.
use Rattle.std.proofs.Common.{◌≡◌, ℕ, zero, suc, Bool, true, List, [], ◌∷◌, ◌++◌, Option, Some, None, is_some, option_map, option_and_then, sym, subst, refl, inl, inr}
use Rattle.std.proofs.lemmas.Bool.{cases_Bool, false≢true}
use Rattle.std.proofs.lemmas.Option.{none-some, same_Some}
use Rattle.std.specs.Cmp.Lexicographic.{slice_cmp}
use Rattle.std.specs.Ordering.{nat_cmp}
use Rattle.toml.specs.Data.{Data, table, array, Items, no_items, item, no_members, get_item, push_item, same_key}
use Rattle.toml.specs.Tables.{implicit, dotted, header, Node, value, open_table, open_array, Nodes, no_nodes, node, get_node, insert, replace, close, close_node, Edit, header_node, dot_node, by_header, by_dot, along_header, along_dots, Definition, key_value, std_table, array_table, new_node, redefine, at_found, at_key, put, Document, Expression, define_as, define}
use Rattle.nextest_places.proofs.Edits.{cases_ordering, map_some, get_close, same_bytes}
use Rattle.nextest_places.specs.declared.step.Step.{Step}
use Rattle.nextest_places.specs.declared.step.Step.TheVariants.{Key, Position}
use Rattle.nextest_places.proofs.Stands.{value_at, Grows}

-- whether a path leads to something in a node
abbrev seen : List Step → Option Node → Bool
seen path o = is_some (option_and_then (value_at path) (option_map close_node o))

abbrev pub NodesGrow : Nodes → Nodes → Type 0
NodesGrow ns ms = (k : List ℕ) (path : List Step) → seen path (get_node k ns) ≡ true
    → seen path (get_node k ms) ≡ true

abbrev NodeGrows : Node → Node → Type 0
NodeGrows x y = Grows (close_node x) (close_node y)

pub table_grows : (ns ms : Nodes) → NodesGrow ns ms → Grows (table (close ns)) (table (close ms))
table_grows ns ms g [] h = refl
table_grows ns ms g (Key k ∷ path) h =
    rw (get_close k.now ms) (g k.now path (rw (get_close k.now ns) at h))
table_grows ns ms g (Position i ∷ path) h = absurd (false≢true h)

-- whether a path leads to something in an item
abbrev item_seen : List Step → Option Data → Bool
item_seen path o = is_some (option_and_then (value_at path) o)

abbrev ItemsGrow : Items → Items → Type 0
ItemsGrow ds es = (i : ℕ) (path : List Step) → item_seen path (get_item i ds) ≡ true
    → item_seen path (get_item i es) ≡ true

array_grows : (ds es : Items) → ItemsGrow ds es → Grows (array ds) (array es)
array_grows ds es g [] h = refl
array_grows ds es g (Key k ∷ path) h = absurd (false≢true h)
array_grows ds es g (Position i ∷ path) h = g i path h

-- the last item grows
last_grows : (done : Items) (d e : Data) → Grows d e → ItemsGrow (push_item done d) (push_item done e)
last_grows no_items d e g zero path h = g path h
last_grows no_items d e g (suc i) path h = h
last_grows (item x ds) d e g zero path h = h
last_grows (item x ds) d e g (suc i) path h = last_grows ds d e g i path h

-- one more item
one_more : (ds : Items) (e : Data) → ItemsGrow ds (push_item ds e)
one_more no_items e i path h = absurd (false≢true h)
one_more (item x ds) e zero path h = h
one_more (item x ds) e (suc i) path h = one_more ds e i path h

replace_grows : (k : List ℕ) (y : Node) (ns : Nodes) (x : Node) → get_node k ns ≡ Some x → NodeGrows x y
    → NodesGrow ns (replace k y ns)
replace_grows k y no_nodes x found g = absurd (none-some x found)
replace_grows k y (node l z ns) x found g = λ j path h.
    elim (cases_Bool (same_key k l)) [
      | inl same ↦
          let is : z ≡ x = same_Some z x (rw same at found) in
          rw same (elim (cases_Bool (same_key j l)) [
            | inl at ↦ rw at (g path (rw (at, is) at h))
            | inr away ↦ rw away (rw away at h)
          ])
      | inr other ↦ rw other (elim (cases_Bool (same_key j l)) [
        | inl at ↦ rw at (rw at at h)
        | inr away ↦ rw away (replace_grows k y ns x (rw other at found) g j path (rw away at h))
      ])
    ]

missing : (j k : List ℕ) (path : List Step) (ns : Nodes) → j ≡ k → get_node k ns ≡ None
    → seen path (get_node j ns) ≡ true → ⊥
missing j k path ns same none h = let gone = rw (same, none) at h in false≢true gone

insert_grows : (k : List ℕ) (x : Node) (ns : Nodes) → get_node k ns ≡ None → NodesGrow ns (insert k x ns)
insert_grows k x no_nodes none = λ j path h. absurd (false≢true h)
insert_grows k x (node l y ns) none = λ j path h.
    elim (cases_ordering (slice_cmp nat_cmp k l)) [
      | inl less ↦ rw less (elim (cases_Bool (same_key j k)) [
        | inl at ↦
            let same : j ≡ k = same_bytes j k at in
            absurd (missing j k path (node l y ns) same none h)
        | inr away ↦ rw away h
      ])
      | inr other ↦ elim other [
        | inl tie ↦ let some = rw tie at none in absurd (none-some y (sym some))
        | inr more ↦ rw more (elim (cases_Bool (same_key j l)) [
          | inl at ↦ rw at (rw at at h)
          | inr away ↦ rw away (insert_grows k x ns (rw more at none) j path (rw away at h))
        ])
      ]
    ]

-- an edit that takes nothing away
abbrev Growing : Edit → Type 0
Growing edit = (ns ms : Nodes) → edit ns ≡ Some ms → NodesGrow ns ms

redefine_grows : (what : Definition) (x y : Node) → redefine what x ≡ Some y → NodeGrows x y
redefine_grows std_table (open_table implicit inner) y h =
    subst (λ n. NodeGrows (open_table implicit inner) n) (same_Some _ y h) (λ path g. g)
redefine_grows array_table (open_array done last) y h =
    subst (λ n. NodeGrows (open_array done last) n) (same_Some _ y h)
    (array_grows _ _ (one_more (push_item done (table (close last))) (table no_members)))
redefine_grows what x y h = absurd (none-some y h)

found_grows : (k : List ℕ) (what : Definition) (ns ms : Nodes) (o : Option Node) → get_node k ns ≡ o
    → at_found k what ns o ≡ Some ms → NodesGrow ns ms
found_grows k what ns ms None at h = subst (NodesGrow ns) (same_Some _ ms h) (insert_grows k (new_node what) ns at)
found_grows k what ns ms (Some x) at h =
    let (y, made, is) = map_some (λ y. replace k y ns) (redefine what x) ms h in
    subst (NodesGrow ns) is (replace_grows k y ns x at (redefine_grows what x y made))

at_key_growing : (k : List ℕ) (what : Definition) → Growing (at_key k what)
unfolding at_key
at_key_growing k what = λ ns ms h. found_grows k what ns ms (get_node k ns) refl h

header_grows : (edit : Edit) → Growing edit → (x y : Node) → header_node edit x ≡ Some y → NodeGrows x y
header_grows edit g (value d) y h = absurd (none-some y h)
header_grows edit g (open_table origin inner) y h =
    let (more, made, is) = map_some (open_table origin) (edit inner) y h in
    subst (NodeGrows (open_table origin inner)) is (table_grows inner more (g inner more made))
header_grows edit g (open_array done last) y h =
    let (more, made, is) = map_some (open_array done) (edit last) y h in
    subst (NodeGrows (open_array done last)) is
    (array_grows _ _ (last_grows done _ _ (table_grows last more (g last more made))))

dot_grows : (edit : Edit) → Growing edit → (x y : Node) → dot_node edit x ≡ Some y → NodeGrows x y
dot_grows edit g (value d) y h = absurd (none-some y h)
dot_grows edit g (open_table header inner) y h = absurd (none-some y h)
dot_grows edit g (open_table implicit inner) y h =
    let (more, made, is) = map_some (open_table dotted) (edit inner) y h in
    subst (NodeGrows (open_table implicit inner)) is (table_grows inner more (g inner more made))
dot_grows edit g (open_table dotted inner) y h =
    let (more, made, is) = map_some (open_table dotted) (edit inner) y h in
    subst (NodeGrows (open_table dotted inner)) is (table_grows inner more (g inner more made))
dot_grows edit g (open_array done last) y h = absurd (none-some y h)

by_header_grows : (k : List ℕ) (edit : Edit) → Growing edit → (ns ms : Nodes) (o : Option Node)
    → get_node k ns ≡ o → by_header k edit ns o ≡ Some ms → NodesGrow ns ms
by_header_grows k edit g ns ms None at h =
    let (new, made, is) = map_some (λ new. insert k (open_table implicit new) ns) (edit no_nodes) ms h in
    subst (NodesGrow ns) is (insert_grows k (open_table implicit new) ns at)
by_header_grows k edit g ns ms (Some x) at h =
    let (y, made, is) = map_some (λ y. replace k y ns) (header_node edit x) ms h in
    subst (NodesGrow ns) is (replace_grows k y ns x at (header_grows edit g x y made))

by_dot_grows : (k : List ℕ) (edit : Edit) → Growing edit → (ns ms : Nodes) (o : Option Node)
    → get_node k ns ≡ o → by_dot k edit ns o ≡ Some ms → NodesGrow ns ms
by_dot_grows k edit g ns ms None at h =
    let (new, made, is) = map_some (λ new. insert k (open_table dotted new) ns) (edit no_nodes) ms h in
    subst (NodesGrow ns) is (insert_grows k (open_table dotted new) ns at)
by_dot_grows k edit g ns ms (Some x) at h =
    let (y, made, is) = map_some (λ y. replace k y ns) (dot_node edit x) ms h in
    subst (NodesGrow ns) is (replace_grows k y ns x at (dot_grows edit g x y made))

header_growing : (path : List (List ℕ)) (edit : Edit) → Growing edit → Growing (along_header path edit)
unfolding along_header
header_growing [] edit g = g
header_growing (k ∷ path) edit g =
    λ ns ms h. by_header_grows k (along_header path edit) (header_growing path edit g) ns ms (get_node k ns) refl h

dots_growing : (path : List (List ℕ)) (edit : Edit) → Growing edit → Growing (along_dots path edit)
unfolding along_dots
dots_growing [] edit g = g
dots_growing (k ∷ path) edit g =
    λ ns ms h. by_dot_grows k (along_dots path edit) (dots_growing path edit g) ns ms (get_node k ns) refl h

table_header_grows : (doc next : Document) (key : List (List ℕ) × List ℕ) (what : Definition)
    → option_map (λ root. (root, key.0 ++ key.1 ∷ [])) (along_header key.0 (at_key key.1 what) doc.0)
    ≡ Some next → NodesGrow doc.0 next.0
table_header_grows doc next key what h =
    let (root, made, is) = map_some (λ root. (root, key.0 ++ key.1 ∷ []))
    (along_header key.0 (at_key key.1 what) doc.0) next h in
    subst (λ d. NodesGrow doc.0 d.0) is
    (header_growing key.0 (at_key key.1 what) (at_key_growing key.1 what) doc.0 root made)

define_as_grows : (doc next : Document) (key : List (List ℕ) × List ℕ) (what : Definition)
    → define_as doc key what ≡ Some next → NodesGrow doc.0 next.0
define_as_grows doc next key (key_value d) h =
    let (root, made, is) = map_some (λ root. (root, doc.1)) (along_header doc.1 (put key d) doc.0) next h in
    subst (λ d. NodesGrow doc.0 d.0) is
    (header_growing doc.1 (put key d)
    (dots_growing key.0 (at_key key.1 (key_value d)) (at_key_growing key.1 (key_value d))) doc.0 root made)
define_as_grows doc next key std_table h = table_header_grows doc next key std_table h
define_as_grows doc next key array_table h = table_header_grows doc next key array_table h

pub define_grows : (doc next : Document) (e : Expression) → define doc e ≡ Some next → NodesGrow doc.0 next.0
unfolding define
define_grows doc next e h = define_as_grows doc next e.0 e.1 h
