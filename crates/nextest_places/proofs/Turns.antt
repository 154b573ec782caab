-- How an expression changes the way in which a path's steps are in a document.
use Rattle.std.proofs.Common.{◌≡◌, ◌⊎◌, ℕ, zero, suc, Bool, true, false, cond, ◌==◌, List, [], ◌∷◌, ◌++◌, length, Option, Some, None, is_some, option_map, option_and_then, refl, sym, ap, ◌∙◌, subst, inl, inr}
use Rattle.std.proofs.lemmas.Bool.{cases_Bool}
use Rattle.std.proofs.lemmas.Map.Text.{is_eq-slice_cmp}
use Rattle.std.proofs.lemmas.Option.{none-some, same_Some}
use Rattle.std.specs.Str.{bytes_eq}
use Rattle.toml.specs.Data.{table, Items, no_items, item, push_item, same_key}
use Rattle.toml.specs.Tables.{Origin, implicit, dotted, header, Node, value, open_table, open_array, Nodes, no_nodes, get_node, insert, replace, close, Edit, header_node, dot_node, by_header, by_dot, along_header, along_dots, Definition, key_value, std_table, array_table, new_node, redefine, at_found, at_key, put, Document, Expression, define_as, define}
use Rattle.toml.specs.Parse.{line, lines}
use Rattle.toml_parser.specs.Lexical.{Read, skip_blank}
use Rattle.toml_parser.specs.Strings.{Key as Written}
use Rattle.nextest_places.proofs.Documents.{after_line}
use Rattle.nextest_places.proofs.Edits.{get_insert, get_replace, map_some, same_bytes}
use Rattle.nextest_places.specs.declared.entry.Kind.{Kind}
use Rattle.nextest_places.specs.declared.entry.Kind.TheVariants.{Pair, Table, Element}
use Rattle.nextest_places.specs.declared.step.Step.{Step}
use Rattle.nextest_places.specs.declared.step.Step.TheVariants.{Key, Position}
use Rattle.nextest_places.specs.Marks.{State, by_key, into, seen, never, missing, under, fresh, next_element, turn}
use Rattle.nextest_places.proofs.Stands.{value_at}
use Rattle.nextest_places.proofs.Standings.{settled, state_item, state, state_of, table_state, is_seen, state_seen}

-- how a path is behind an expression
abbrev pub after : Kind → List (List ℕ) → State → State
after kind parts seen = seen
after kind parts never = never
after kind parts (missing ms) = turn kind parts ms

-- as it is said, or in a way that brings nothing ever
abbrev pub Fits : State → State → Type 0
Fits s t = (t ≡ s) ⊎ (t ≡ never)

fits_key : (k : List ℕ) (s t : State) → Fits s t → Fits (under (by_key k) s) (under (by_key k) t)
fits_key k s t (inl is) = inl (ap (under (by_key k)) is)
fits_key k s t (inr is) = inr (ap (under (by_key k)) is)

fits_into : (s t : State) → Fits s t → Fits (under (into zero) s) (under (into zero) t)
fits_into s t (inl is) = inl (ap (under (into zero)) is)
fits_into s t (inr is) = inr (ap (under (into zero)) is)

fits_settled : (b : Bool) → Fits seen (settled b)
fits_settled true = inl refl
fits_settled false = inr refl

settled_stays : (kind : Kind) (parts : List (List ℕ)) (b : Bool) → after kind parts (settled b) ≡ settled b
settled_stays kind parts true = refl
settled_stays kind parts false = refl

-- a key's first part, at another key, at this one and in a last element
after_same : (kind : Kind) (k part : List ℕ) (parts : List (List ℕ)) (s : State) → bytes_eq k part ≡ true
    → after kind (part ∷ parts) (under (by_key k) s) ≡ under (by_key k) (after kind parts s)
after_same kind k part parts seen same = refl
after_same kind k part parts never same = refl
after_same kind k part parts (missing ms) same = rw same refl

after_other : (kind : Kind) (k part : List ℕ) (parts : List (List ℕ)) (s : State) → bytes_eq k part ≡ false
    → after kind (part ∷ parts) (under (by_key k) s) ≡ under (by_key k) s
after_other kind k part parts seen other = refl
after_other kind k part parts never other = refl
after_other kind k part parts (missing ms) other = rw other refl

after_into : (kind : Kind) (part : List ℕ) (parts : List (List ℕ)) (s : State)
    → after kind (part ∷ parts) (under (into zero) s) ≡ under (into zero) (after kind (part ∷ parts) s)
after_into kind part parts seen = refl
after_into kind part parts never = refl
after_into kind part parts (missing ms) = refl

after_table : (k : List ℕ) (s : State) → after Table [] (under (by_key k) s) ≡ under (by_key k) s
after_table k seen = refl
after_table k never = refl
after_table k (missing ms) = refl

-- an edit changes nodes as an expression of this kind does, with these parts of a key
abbrev pub EditTurns : Edit → Kind → List (List ℕ) → Type 0
EditTurns edit kind parts = (ns ms : Nodes) → edit ns ≡ Some ms → (path : List Step)
    → Fits (after kind parts (table_state path ns)) (table_state path ms)

-- nodes that differ at one key
changed : (k : List ℕ) (ns ms : Nodes) (y : Node) (kind : Kind) (parts : List (List ℕ))
    → ((j : List ℕ) → get_node j ms ≡ cond (same_key j k) (Some y) (get_node j ns))
    → ((path : List Step) → Fits (after kind parts (state_of path (get_node k ns))) (state path y))
    → (path : List Step) → Fits (after kind (k ∷ parts) (table_state path ns)) (table_state path ms)
changed k ns ms y kind parts differ at [] = inl refl
changed k ns ms y kind parts differ at (Position i ∷ path) = inl refl
changed k ns ms y kind parts differ at (Key j ∷ path) =
    elim (cases_Bool (bytes_eq j.now k)) [
      | inl same ↦
          let keys : same_key j.now k ≡ true = is_eq-slice_cmp j.now k ∙ same in
          let is : j.now ≡ k = same_bytes j.now k keys in
          let found : get_node j.now ms ≡ Some y = rw keys at (differ j.now) in
          let was : get_node j.now ns ≡ get_node k ns = ap (λ i. get_node i ns) is in
          rw (after_same kind j.now k parts (state_of path (get_node j.now ns)) same, found, was)
          (fits_key j.now (after kind parts (state_of path (get_node k ns))) (state path y) (at path))
      | inr other ↦
          let keys : same_key j.now k ≡ false = is_eq-slice_cmp j.now k ∙ other in
          let found : get_node j.now ms ≡ get_node j.now ns = rw keys at (differ j.now) in
          rw (after_other kind j.now k parts (state_of path (get_node j.now ns)) other, found) (inl refl)
    ]

origin_free : (origin : Origin) (ns : Nodes) (path : List Step)
    → state path (open_table origin ns) ≡ table_state path ns
origin_free origin ns [] = refl
origin_free origin ns (Key k ∷ path) = refl
origin_free origin ns (Position i ∷ path) = refl

-- what is new in an empty table
in_new : (edit : Edit) (kind : Kind) (part : List ℕ) (parts : List (List ℕ)) → EditTurns edit kind (part ∷ parts)
    → (origin : Origin) (new : Nodes) → edit no_nodes ≡ Some new → (path : List Step)
    → Fits (after kind (part ∷ parts) (missing (fresh path))) (state path (open_table origin new))
in_new edit kind part parts t origin new made [] = inl refl
in_new edit kind part parts t origin new made (Key k ∷ path) = t no_nodes new made (Key k ∷ path)
in_new edit kind part parts t origin new made (Position i ∷ path) = inr refl

in_table : (edit : Edit) (kind : Kind) (parts : List (List ℕ)) → EditTurns edit kind parts
    → (one two : Origin) (inner more : Nodes) → edit inner ≡ Some more → (path : List Step)
    → Fits (after kind parts (state path (open_table one inner))) (state path (open_table two more))
in_table edit kind parts t one two inner more made path =
    rw (origin_free one inner path, origin_free two more path) (t inner more made path)

in_item : (kind : Kind) (part : List ℕ) (parts : List (List ℕ)) (i : ℕ) (path : List Step) (done : Items) (s t : State)
    → Fits (after kind (part ∷ parts) s) t
    → Fits (after kind (part ∷ parts) (state_item i path done s)) (state_item i path done t)
in_item kind part parts zero path no_items s t f =
    rw (after_into kind part parts s) (fits_into (after kind (part ∷ parts) s) t f)
in_item kind part parts (suc i) path no_items s t f = inl refl
in_item kind part parts zero path (item d ds) s t f =
    inl (sym (settled_stays kind (part ∷ parts) (is_some (value_at path d))))
in_item kind part parts (suc i) path (item d ds) s t f = in_item kind part parts i path ds s t f

in_header : (edit : Edit) (kind : Kind) (part : List ℕ) (parts : List (List ℕ)) → EditTurns edit kind (part ∷ parts)
    → (x y : Node) → header_node edit x ≡ Some y → (path : List Step)
    → Fits (after kind (part ∷ parts) (state path x)) (state path y)
in_header edit kind part parts t (value d) y h path = absurd (none-some y h)
in_header edit kind part parts t (open_table origin inner) y h path =
    let (more, made, is) = map_some (open_table origin) (edit inner) y h in
    subst (λ n. Fits (after kind (part ∷ parts) (state path (open_table origin inner))) (state path n)) is
    (in_table edit kind (part ∷ parts) t origin origin inner more made path)
in_header edit kind part parts t (open_array done last) y h [] = inl refl
in_header edit kind part parts t (open_array done last) y h (Key k ∷ path) =
    let (more, made, is) = map_some (open_array done) (edit last) y h in
    subst (λ n. Fits never (state (Key k ∷ path) n)) is (inl refl)
in_header edit kind part parts t (open_array done last) y h (Position i ∷ path) =
    let (more, made, is) = map_some (open_array done) (edit last) y h in
    subst (λ n. Fits (after kind (part ∷ parts) (state (Position i ∷ path) (open_array done last)))
    (state (Position i ∷ path) n)) is
    (in_item kind part parts i path done (table_state path last) (table_state path more) (t last more made path))

in_dots : (edit : Edit) (kind : Kind) (part : List ℕ) (parts : List (List ℕ)) → EditTurns edit kind (part ∷ parts)
    → (x y : Node) → dot_node edit x ≡ Some y → (path : List Step)
    → Fits (after kind (part ∷ parts) (state path x)) (state path y)
in_dots edit kind part parts t (value d) y h path = absurd (none-some y h)
in_dots edit kind part parts t (open_table header inner) y h path = absurd (none-some y h)
in_dots edit kind part parts t (open_table implicit inner) y h path =
    let (more, made, is) = map_some (open_table dotted) (edit inner) y h in
    subst (λ n. Fits (after kind (part ∷ parts) (state path (open_table implicit inner))) (state path n)) is
    (in_table edit kind (part ∷ parts) t implicit dotted inner more made path)
in_dots edit kind part parts t (open_table dotted inner) y h path =
    let (more, made, is) = map_some (open_table dotted) (edit inner) y h in
    subst (λ n. Fits (after kind (part ∷ parts) (state path (open_table dotted inner))) (state path n)) is
    (in_table edit kind (part ∷ parts) t dotted dotted inner more made path)
in_dots edit kind part parts t (open_array done last) y h path = absurd (none-some y h)

by_header_turns : (k : List ℕ) (edit : Edit) (kind : Kind) (part : List ℕ) (parts : List (List ℕ))
    → EditTurns edit kind (part ∷ parts) → (ns ms : Nodes) (o : Option Node) → get_node k ns ≡ o
    → by_header k edit ns o ≡ Some ms → (path : List Step)
    → Fits (after kind (k ∷ part ∷ parts) (table_state path ns)) (table_state path ms)
by_header_turns k edit kind part parts t ns ms None at h =
    let (new, made, is) = map_some (λ new. insert k (open_table implicit new) ns) (edit no_nodes) ms h in
    subst (λ m. (path : List Step) → Fits (after kind (k ∷ part ∷ parts) (table_state path ns)) (table_state path m)) is
    (changed k ns (insert k (open_table implicit new) ns) (open_table implicit new) kind (part ∷ parts)
    (λ j. get_insert j k (open_table implicit new) ns at)
    (λ path. rw at (in_new edit kind part parts t implicit new made path)))
by_header_turns k edit kind part parts t ns ms (Some x) at h =
    let (y, made, is) = map_some (λ y. replace k y ns) (header_node edit x) ms h in
    subst (λ m. (path : List Step) → Fits (after kind (k ∷ part ∷ parts) (table_state path ns)) (table_state path m)) is
    (changed k ns (replace k y ns) y kind (part ∷ parts) (λ j. get_replace j k y ns x at)
    (λ path. rw at (in_header edit kind part parts t x y made path)))

by_dot_turns : (k : List ℕ) (edit : Edit) (kind : Kind) (part : List ℕ) (parts : List (List ℕ))
    → EditTurns edit kind (part ∷ parts) → (ns ms : Nodes) (o : Option Node) → get_node k ns ≡ o
    → by_dot k edit ns o ≡ Some ms → (path : List Step)
    → Fits (after kind (k ∷ part ∷ parts) (table_state path ns)) (table_state path ms)
by_dot_turns k edit kind part parts t ns ms None at h =
    let (new, made, is) = map_some (λ new. insert k (open_table dotted new) ns) (edit no_nodes) ms h in
    subst (λ m. (path : List Step) → Fits (after kind (k ∷ part ∷ parts) (table_state path ns)) (table_state path m)) is
    (changed k ns (insert k (open_table dotted new) ns) (open_table dotted new) kind (part ∷ parts)
    (λ j. get_insert j k (open_table dotted new) ns at)
    (λ path. rw at (in_new edit kind part parts t dotted new made path)))
by_dot_turns k edit kind part parts t ns ms (Some x) at h =
    let (y, made, is) = map_some (λ y. replace k y ns) (dot_node edit x) ms h in
    subst (λ m. (path : List Step) → Fits (after kind (k ∷ part ∷ parts) (table_state path ns)) (table_state path m)) is
    (changed k ns (replace k y ns) y kind (part ∷ parts) (λ j. get_replace j k y ns x at)
    (λ path. rw at (in_dots edit kind part parts t x y made path)))

-- keys before some part
some_part : (ks : List (List ℕ)) (part : List ℕ) (parts : List (List ℕ))
    → (first : List ℕ) × (more : List (List ℕ)) × (ks ++ part ∷ parts ≡ first ∷ more)
some_part [] part parts = (part, parts, refl)
some_part (k ∷ ks) part parts = (k, ks ++ part ∷ parts, refl)

pub header_turns : (ks : List (List ℕ)) (edit : Edit) (kind : Kind) (part : List ℕ) (parts : List (List ℕ))
    → EditTurns edit kind (part ∷ parts) → EditTurns (along_header ks edit) kind (ks ++ part ∷ parts)
unfolding along_header
header_turns [] edit kind part parts t = t
header_turns (k ∷ ks) edit kind part parts t = λ ns ms h path.
    let (first, more, is) = some_part ks part parts in
    let rest = subst (EditTurns (along_header ks edit) kind) is (header_turns ks edit kind part parts t) in
    rw is (by_header_turns k (along_header ks edit) kind first more rest ns ms (get_node k ns) refl h path)

pub dots_turns : (ks : List (List ℕ)) (edit : Edit) (kind : Kind) (part : List ℕ) (parts : List (List ℕ))
    → EditTurns edit kind (part ∷ parts) → EditTurns (along_dots ks edit) kind (ks ++ part ∷ parts)
unfolding along_dots
dots_turns [] edit kind part parts t = t
dots_turns (k ∷ ks) edit kind part parts t = λ ns ms h path.
    let (first, more, is) = some_part ks part parts in
    let rest = subst (EditTurns (along_dots ks edit) kind) is (dots_turns ks edit kind part parts t) in
    rw is (by_dot_turns k (along_dots ks edit) kind first more rest ns ms (get_node k ns) refl h path)

-- the kind of an expression
abbrev pub kind_of : Definition → Kind
kind_of (key_value d) = Pair
kind_of std_table = Table
kind_of array_table = Element

-- the first element of an array
first_element : (path : List Step)
    → Fits (next_element zero (fresh path)) (under (into zero) (table_state path no_nodes))
first_element [] = inl refl
first_element (Key k ∷ path) = inl refl
first_element (Position i ∷ path) = inr refl

in_made : (what : Definition) (path : List Step)
    → Fits (after (kind_of what) [] (missing (fresh path))) (state path (new_node what))
in_made (key_value d) [] = inl refl
in_made (key_value d) (Key k ∷ path) = fits_settled (is_some (value_at (Key k ∷ path) d))
in_made (key_value d) (Position i ∷ path) = fits_settled (is_some (value_at (Position i ∷ path) d))
in_made std_table [] = inl refl
in_made std_table (Key k ∷ path) = inl refl
in_made std_table (Position i ∷ path) = inr refl
in_made array_table [] = inl refl
in_made array_table (Key k ∷ path) = inr refl
in_made array_table (Position zero ∷ path) = first_element path
in_made array_table (Position (suc i) ∷ path) = inl refl

-- the last element of an array, once there is another
closed_element : (s : State) (b : Bool) → is_seen s ≡ b → Fits (after Element [] (under (into zero) s)) (settled b)
closed_element seen b is = rw (← is) (inl refl)
closed_element never b is = rw (← is) (inl refl)
closed_element (missing ms) b is = rw (← is) (inr refl)

in_added : (i : ℕ) (path : List Step) (done : Items) (last : Nodes)
    → Fits (after Element [] (state_item i path done (table_state path last)))
    (state_item i path (push_item done (table (close last))) (table_state path no_nodes))
in_added zero path no_items last =
    closed_element (table_state path last) (is_some (value_at path (table (close last))))
    (state_seen path (open_table header last))
in_added (suc zero) path no_items last = first_element path
in_added (suc (suc i)) path no_items last = inl refl
in_added zero path (item d ds) last = inl (sym (settled_stays Element [] (is_some (value_at path d))))
in_added (suc i) path (item d ds) last = in_added i path ds last

in_redefined : (what : Definition) (x y : Node) (path : List Step) → redefine what x ≡ Some y
    → Fits (after (kind_of what) [] (state path x)) (state path y)
in_redefined std_table (open_table implicit inner) y [] h = inl refl
in_redefined std_table (open_table implicit inner) y (Key k ∷ path) h =
    subst (λ n. Fits (after Table [] (table_state (Key k ∷ path) inner)) (state (Key k ∷ path) n))
    (same_Some _ y h) (inl (sym (after_table k.now (state_of path (get_node k.now inner)))))
in_redefined std_table (open_table implicit inner) y (Position i ∷ path) h =
    subst (λ n. Fits never (state (Position i ∷ path) n)) (same_Some _ y h) (inl refl)
in_redefined array_table (open_array done last) y [] h = inl refl
in_redefined array_table (open_array done last) y (Key k ∷ path) h =
    subst (λ n. Fits never (state (Key k ∷ path) n)) (same_Some _ y h) (inl refl)
in_redefined array_table (open_array done last) y (Position i ∷ path) h =
    subst (λ n. Fits (after Element [] (state_item i path done (table_state path last))) (state (Position i ∷ path) n))
    (same_Some _ y h) (in_added i path done last)
in_redefined what x y path h = absurd (none-some y h)

in_found : (k : List ℕ) (what : Definition) (ns ms : Nodes) (o : Option Node) → get_node k ns ≡ o
    → at_found k what ns o ≡ Some ms → (path : List Step)
    → Fits (after (kind_of what) (k ∷ []) (table_state path ns)) (table_state path ms)
in_found k what ns ms None at h =
    subst (λ m. (path : List Step) → Fits (after (kind_of what) (k ∷ []) (table_state path ns)) (table_state path m))
    (same_Some _ ms h)
    (changed k ns (insert k (new_node what) ns) (new_node what) (kind_of what) []
    (λ j. get_insert j k (new_node what) ns at) (λ path. rw at (in_made what path)))
in_found k what ns ms (Some x) at h =
    let (y, made, is) = map_some (λ y. replace k y ns) (redefine what x) ms h in
    subst (λ m. (path : List Step) → Fits (after (kind_of what) (k ∷ []) (table_state path ns)) (table_state path m)) is
    (changed k ns (replace k y ns) y (kind_of what) [] (λ j. get_replace j k y ns x at)
    (λ path. rw at (in_redefined what x y path made)))

pub at_key_turns : (k : List ℕ) (what : Definition) → EditTurns (at_key k what) (kind_of what) (k ∷ [])
unfolding at_key
at_key_turns k what = λ ns ms h path. in_found k what ns ms (get_node k ns) refl h path

-- the parts of an expression's key from the root on
abbrev pub parts_by : List (List ℕ) → Written → Definition → List (List ℕ)
parts_by section key (key_value d) = section ++ (key.0 ++ key.1 ∷ [])
parts_by section key what = key.0 ++ key.1 ∷ []

-- the whole of an expression
abbrev DefineTurns : Document → Document → Written → Definition → Type 0
DefineTurns doc next key what = (path : List Step)
    → Fits (after (kind_of what) (parts_by doc.1 key what) (table_state path doc.0)) (table_state path next.0)

pair_turns : (key : Written) (what : Definition) (section : List (List ℕ))
    → EditTurns (along_dots key.0 (at_key key.1 what)) (kind_of what) (key.0 ++ key.1 ∷ [])
    → EditTurns (along_header section (along_dots key.0 (at_key key.1 what))) (kind_of what)
    (section ++ (key.0 ++ key.1 ∷ []))
pair_turns key what section t =
    let (first, more, is) = some_part key.0 key.1 [] in
    let inner = subst (EditTurns (along_dots key.0 (at_key key.1 what)) (kind_of what)) is t in
    let edit = along_header section (along_dots key.0 (at_key key.1 what)) in
    subst (λ parts. EditTurns edit (kind_of what) (section ++ parts)) (sym is)
    (header_turns section (along_dots key.0 (at_key key.1 what)) (kind_of what) first more inner)

table_turns : (doc next : Document) (key : Written) (what : Definition)
    → option_map (λ root. (root, key.0 ++ key.1 ∷ [])) (along_header key.0 (at_key key.1 what) doc.0) ≡ Some next
    → (path : List Step)
    → Fits (after (kind_of what) (key.0 ++ key.1 ∷ []) (table_state path doc.0)) (table_state path next.0)
table_turns doc next key what h path =
    let (root, made, is) = map_some (λ root. (root, key.0 ++ key.1 ∷ []))
    (along_header key.0 (at_key key.1 what) doc.0) next h in
    subst (λ d. Fits (after (kind_of what) (key.0 ++ key.1 ∷ []) (table_state path doc.0)) (table_state path d.0)) is
    (header_turns key.0 (at_key key.1 what) (kind_of what) key.1 [] (at_key_turns key.1 what) doc.0 root made path)

define_as_turns : (doc next : Document) (key : Written) (what : Definition) → define_as doc key what ≡ Some next
    → DefineTurns doc next key what
define_as_turns doc next key (key_value d) h path =
    let (root, made, is) = map_some (λ root. (root, doc.1)) (along_header doc.1 (put key d) doc.0) next h in
    subst (λ m. Fits (after Pair (doc.1 ++ (key.0 ++ key.1 ∷ [])) (table_state path doc.0)) (table_state path m.0)) is
    (pair_turns key (key_value d) doc.1
    (dots_turns key.0 (at_key key.1 (key_value d)) Pair key.1 [] (at_key_turns key.1 (key_value d)))
    doc.0 root made path)
define_as_turns doc next key std_table h path = table_turns doc next key std_table h path
define_as_turns doc next key array_table h path = table_turns doc next key array_table h path

pub define_turns : (doc next : Document) (key : Written) (what : Definition) → define doc (key, what) ≡ Some next
    → (path : List Step)
    → Fits (after (kind_of what) (parts_by doc.1 key what) (table_state path doc.0)) (table_state path next.0)
unfolding define
define_turns doc next key what h path = define_as_turns doc next key what h path

-- what nothing ever brings stays away
abbrev Stays : List Step → Document → Document → Type 0
Stays path doc next = table_state path doc.0 ≡ never → table_state path next.0 ≡ never

stays_fit : (s t : State) (kind : Kind) (parts : List (List ℕ)) → Fits (after kind parts s) t → s ≡ never → t ≡ never
stays_fit s t kind parts (inl is) none = is ∙ ap (after kind parts) none
stays_fit s t kind parts (inr is) none = is

then_never : (path : List Step) (doc last : Document) (key : Written) (what : Definition) (made : Option Document)
    → (rest : Document → Option Document) → define doc (key, what) ≡ made
    → ((next : Document) → rest next ≡ Some last → Stays path next last)
    → option_and_then rest made ≡ Some last → Stays path doc last
then_never path doc last key what None rest is more h none = absurd (none-some last h)
then_never path doc last key what (Some next) rest is more h none =
    more next h (stays_fit (table_state path doc.0) (table_state path next.0) (kind_of what)
    (parts_by doc.1 key what) (define_turns doc next key what is path) none)

after_never : (path : List Step) (n : ℕ) (doc last : Document) (r : Read Expression)
    → ((next : Document) (y : List ℕ) → lines n next y ≡ Some last → Stays path next last)
    → after_line n doc r ≡ Some last → Stays path doc last
after_never path n doc last None more h none = absurd (none-some last h)
after_never path n doc last (Some e) more h none =
    then_never path doc last e.0.0 e.0.1 (define doc e.0) (λ next. lines n next e.1) refl
    (λ next i. more next e.1 i) h none

pub lines_never : (path : List Step) (n : ℕ) (doc last : Document) (y : List ℕ) → lines n doc y ≡ Some last
    → Stays path doc last
unfolding lines
lines_never path zero doc last y h none = absurd (none-some last h)
lines_never path (suc n) doc last y h none =
    elim (cases_Bool (length (skip_blank y) == 0)) [
      | inl over ↦ subst (λ d. table_state path d.0 ≡ never) (same_Some doc last (rw over at h)) none
      | inr more ↦ after_never path n doc last (line (skip_blank y)) (λ next z i. lines_never path n next last z i)
          (rw more at h) none
    ]
