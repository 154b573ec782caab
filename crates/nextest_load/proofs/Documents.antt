-- In the tree of a text the keys of each table ascend.
use Rattle.std.proofs.Common.{◌≡◌, ℕ, zero, suc, List, [], ◌∷◌, drop, slice_index, ◌==◌, ◌&&◌, Bool, true, false, Option, Some, None, option_map, option_and_then, if◌then◌else◌, Ordering, Less, Equal, Greater, refl}
use Rattle.std.proofs.lemmas.Cmp.{nat_list_cmp_total}
use Rattle.std.specs.Ordering.{match_ordering}
use Rattle.toml.specs.Data.{Data, table, Items, no_items, item, Members, same_key, push_item}
use Rattle.toml.specs.Parse.{after_byte, keyval, items, members, atom, val, expression, line, lines, parse_document, scalar_data, key_equals, header_key, skip_bom}
use Rattle.toml.specs.Tables.{implicit, dotted, header, Node, value, open_table, open_array, Nodes, no_nodes, node, get_node, insert, replace, close, close_node, header_node, dot_node, by_header, by_dot, along_header, along_dots, Definition, key_value, std_table, array_table, Expression, new_node, redefine, at_found, at_key, put, Document, define_as, define}
use Rattle.toml_parser.specs.Lexical.{first, left_bracket, right_bracket}
use Rattle.toml_parser.specs.Numbers.{unquoted}
use Rattle.toml_parser.specs.Strings.{Key, quoted, recursion_limit}
use Rattle.toml_parser.specs.declared.scalar.Scalar.{Scalar}
use Rattle.toml_parser.specs.declared.scalar.Scalar.TheVariants.{Boolean, Integer, Float, Datetime}
use Rattle.nextest_documents.specs.Text.{tree_of}
use Rattle.nextest_documents.specs.Value.{from_data, from_items, from_members}
use Rattle.nextest_documents.proofs.Laying.{cmp, turned}
use Rattle.nextest_tree.specs.Node.{PrecedesKeys, IsSorted, NodesAreSorted, EntriesAreSorted}

-- what is there, if something is, has a fact
pub data Holds {A : Type 0} (P : A → Type 0) : Option A → Type 0 where
  nothing : Holds P None
  just : {x : A} → P x → Holds P (Some x)

any_holds : {A : Type 0} (o : Option A) → Holds (λ _. Unit {0}) o
any_holds None = nothing
any_holds (Some x) = just tt

map_holds : {A B : Type 0} (P : A → Type 0) (Q : B → Type 0) (f : A → B) → ((x : A) → P x → Q (f x))
    → (o : Option A) → Holds P o → Holds Q (option_map f o)
map_holds P Q f step None nothing = nothing
map_holds P Q f step (Some x) (just h) = just (step x h)

then_holds : {A B : Type 0} (P : A → Type 0) (Q : B → Type 0) (f : A → Option B)
    → ((x : A) → P x → Holds Q (f x)) → (o : Option A) → Holds P o → Holds Q (option_and_then f o)
then_holds P Q f step None nothing = nothing
then_holds P Q f step (Some x) (just h) = step x h

if_holds : {A : Type 0} (P : A → Type 0) (b : Bool) (o p : Option A) → Holds P o → Holds P p
    → Holds P (if b then o else p)
if_holds P true o p h k = h
if_holds P false o p h k = k

-- the key comes before all keys of the nodes
abbrev IsAhead : List ℕ → Nodes → Type 0
IsAhead k no_nodes = Unit {0}
IsAhead k (node l x ns) = (cmp k l ≡ Less) × IsAhead k ns

-- what is read so far is sorted
abbrev mutual
  NodeAscends : Node → Type 0
  NodeAscends (value d) = IsSorted (from_data d)
  NodeAscends (open_table origin ns) = NodesAscend ns
  NodeAscends (open_array done last) = NodesAreSorted (from_items done) × NodesAscend last

  NodesAscend : Nodes → Type 0
  NodesAscend no_nodes = Unit {0}
  NodesAscend (node k x ns) = IsAhead k ns × NodeAscends x × NodesAscend ns

push_ascends : (ds : Items) (d : Data) → NodesAreSorted (from_items ds) → IsSorted (from_data d)
    → NodesAreSorted (from_items (push_item ds d))
push_ascends no_items d hs h = (h, tt)
push_ascends (item e ds) d hs h = (hs.0, push_ascends ds d hs.1 h)

close_before : (k : List ℕ) (ns : Nodes) → IsAhead k ns → PrecedesKeys k (from_members (close ns))
close_before k no_nodes h = tt
close_before k (node l x ns) h = (h.0, close_before k ns h.1)

mutual
  closed_node : (x : Node) → NodeAscends x → IsSorted (from_data (close_node x))
  closed_node (value d) h = h
  closed_node (open_table origin ns) h = closed ns h
  closed_node (open_array done last) h = push_ascends done (table (close last)) h.0 (closed last h.1)

  closed : (ns : Nodes) → NodesAscend ns → EntriesAreSorted (from_members (close ns))
  closed no_nodes h = tt
  closed (node k x ns) h = (close_before k ns h.0, closed_node x h.1, closed ns h.2)

ahead_lower : (j k : List ℕ) (ns : Nodes) → cmp j k ≡ Less → IsAhead k ns → IsAhead j ns
ahead_lower j k no_nodes h b = tt
ahead_lower j k (node l x ns) h b = (nat_list_cmp_total.trans j k l h b.0, ahead_lower j k ns h b.1)

ahead_at : (o : Ordering) (j k l : List ℕ) (x y : Node) (ns : Nodes) → cmp j k ≡ Less
    → IsAhead j (node l y ns) → IsAhead j (insert k x ns)
    → IsAhead j (match_ordering o (node k x (node l y ns)) (node l x ns) (node l y (insert k x ns)))
ahead_at Less j k l x y ns h b ih = (h, b)
ahead_at Equal j k l x y ns h b ih = b
ahead_at Greater j k l x y ns h b ih = (b.0, ih)

ahead_insert : (j k : List ℕ) (x : Node) (ns : Nodes) → cmp j k ≡ Less → IsAhead j ns → IsAhead j (insert k x ns)
ahead_insert j k x no_nodes h b = (h, tt)
ahead_insert j k x (node l y ns) h b = ahead_at (cmp k l) j k l x y ns h b (ahead_insert j k x ns h b.1)

insert_at : (o : Ordering) (k l : List ℕ) (x y : Node) (ns : Nodes) → cmp k l ≡ o → NodeAscends x
    → NodesAscend (node l y ns) → NodesAscend (insert k x ns)
    → NodesAscend (match_ordering o (node k x (node l y ns)) (node l x ns) (node l y (insert k x ns)))
insert_at Less k l x y ns is h s ih = ((is, ahead_lower k l ns is s.0), h, s)
insert_at Equal k l x y ns is h s ih = (s.0, h, s.2)
insert_at Greater k l x y ns is h s ih = (ahead_insert l k x ns (turned k l Greater is) s.0, s.1, ih)

inserted : (k : List ℕ) (x : Node) (ns : Nodes) → NodeAscends x → NodesAscend ns → NodesAscend (insert k x ns)
inserted k x no_nodes h s = (tt, h, tt)
inserted k x (node l y ns) h s = insert_at (cmp k l) k l x y ns refl h s (inserted k x ns h s.2)

ahead_either : (b : Bool) (j l : List ℕ) (x y : Node) (ns more : Nodes) → cmp j l ≡ Less → IsAhead j ns
    → IsAhead j more → IsAhead j (if b then node l x ns else node l y more)
ahead_either true j l x y ns more h s ih = (h, s)
ahead_either false j l x y ns more h s ih = (h, ih)

ahead_replace : (j k : List ℕ) (x : Node) (ns : Nodes) → IsAhead j ns → IsAhead j (replace k x ns)
ahead_replace j k x no_nodes h = tt
ahead_replace j k x (node l y ns) h =
    ahead_either (same_key k l) j l x y ns (replace k x ns) h.0 h.1 (ahead_replace j k x ns h.1)

replace_either : (b : Bool) (l : List ℕ) (x y : Node) (ns more : Nodes) → NodeAscends x
    → NodesAscend (node l y ns) → IsAhead l more → NodesAscend more
    → NodesAscend (if b then node l x ns else node l y more)
replace_either true l x y ns more h s a m = (s.0, h, s.2)
replace_either false l x y ns more h s a m = (a, s.1, m)

replaced : (k : List ℕ) (x : Node) (ns : Nodes) → NodeAscends x → NodesAscend ns → NodesAscend (replace k x ns)
replaced k x no_nodes h s = tt
replaced k x (node l y ns) h s =
    replace_either (same_key k l) l x y ns (replace k x ns) h s (ahead_replace l k x ns s.0) (replaced k x ns h s.2)

got : (k : List ℕ) (ns : Nodes) → NodesAscend ns → Holds NodeAscends (get_node k ns)
got k no_nodes s = nothing
got k (node l x ns) s = if_holds NodeAscends (same_key k l) (Some x) (get_node k ns) (just s.1) (got k ns s.2)

-- a change of a table keeps its keys in order
abbrev Keeps : (Nodes → Option Nodes) → Type 0
Keeps edit = (ns : Nodes) → NodesAscend ns → Holds NodesAscend (edit ns)

header_kept : (edit : Nodes → Option Nodes) → Keeps edit → (x : Node) → NodeAscends x
    → Holds NodeAscends (header_node edit x)
header_kept edit keeps (value d) h = nothing
header_kept edit keeps (open_table origin ns) h =
    map_holds NodesAscend NodeAscends (open_table origin) (λ new s. s) (edit ns) (keeps ns h)
header_kept edit keeps (open_array done last) h =
    map_holds NodesAscend NodeAscends (open_array done) (λ new s. (h.0, s)) (edit last) (keeps last h.1)

dot_kept : (edit : Nodes → Option Nodes) → Keeps edit → (x : Node) → NodeAscends x → Holds NodeAscends (dot_node edit x)
dot_kept edit keeps (value d) h = nothing
dot_kept edit keeps (open_table header ns) h = nothing
dot_kept edit keeps (open_table implicit ns) h =
    map_holds NodesAscend NodeAscends (open_table dotted) (λ new s. s) (edit ns) (keeps ns h)
dot_kept edit keeps (open_table dotted ns) h =
    map_holds NodesAscend NodeAscends (open_table dotted) (λ new s. s) (edit ns) (keeps ns h)
dot_kept edit keeps (open_array done last) h = nothing

by_header_kept : (k : List ℕ) (edit : Nodes → Option Nodes) → Keeps edit → (ns : Nodes) → NodesAscend ns
    → (there : Option Node) → Holds NodeAscends there → Holds NodesAscend (by_header k edit ns there)
by_header_kept k edit keeps ns s None h =
    map_holds NodesAscend NodesAscend (λ new. insert k (open_table implicit new) ns)
    (λ new n. inserted k (open_table implicit new) ns n s) (edit no_nodes) (keeps no_nodes tt)
by_header_kept k edit keeps ns s (Some x) (just h) =
    map_holds NodeAscends NodesAscend (λ new. replace k new ns) (λ new n. replaced k new ns n s)
    (header_node edit x) (header_kept edit keeps x h)

by_dot_kept : (k : List ℕ) (edit : Nodes → Option Nodes) → Keeps edit → (ns : Nodes) → NodesAscend ns
    → (there : Option Node) → Holds NodeAscends there → Holds NodesAscend (by_dot k edit ns there)
by_dot_kept k edit keeps ns s None h =
    map_holds NodesAscend NodesAscend (λ new. insert k (open_table dotted new) ns)
    (λ new n. inserted k (open_table dotted new) ns n s) (edit no_nodes) (keeps no_nodes tt)
by_dot_kept k edit keeps ns s (Some x) (just h) =
    map_holds NodeAscends NodesAscend (λ new. replace k new ns) (λ new n. replaced k new ns n s)
    (dot_node edit x) (dot_kept edit keeps x h)

along_header_keeps : (path : List (List ℕ)) (edit : Nodes → Option Nodes) → Keeps edit → Keeps (along_header path edit)
unfolding along_header
along_header_keeps [] edit keeps ns s = keeps ns s
along_header_keeps (k ∷ path) edit keeps ns s =
    by_header_kept k (along_header path edit) (along_header_keeps path edit keeps) ns s (get_node k ns) (got k ns s)

along_dots_keeps : (path : List (List ℕ)) (edit : Nodes → Option Nodes) → Keeps edit → Keeps (along_dots path edit)
unfolding along_dots
along_dots_keeps [] edit keeps ns s = keeps ns s
along_dots_keeps (k ∷ path) edit keeps ns s =
    by_dot_kept k (along_dots path edit) (along_dots_keeps path edit keeps) ns s (get_node k ns) (got k ns s)

-- the value of a pair is sorted
abbrev DefinitionAscends : Definition → Type 0
DefinitionAscends (key_value d) = IsSorted (from_data d)
DefinitionAscends std_table = Unit {0}
DefinitionAscends array_table = Unit {0}

new_ascends : (what : Definition) → DefinitionAscends what → NodeAscends (new_node what)
new_ascends (key_value d) h = h
new_ascends std_table h = tt
new_ascends array_table h = (tt, tt)

redefined : (what : Definition) (x : Node) → NodeAscends x → Holds NodeAscends (redefine what x)
redefined (key_value d) (value e) h = nothing
redefined (key_value d) (open_table origin ns) h = nothing
redefined (key_value d) (open_array done last) h = nothing
redefined std_table (value e) h = nothing
redefined std_table (open_table implicit ns) h = just h
redefined std_table (open_table dotted ns) h = nothing
redefined std_table (open_table header ns) h = nothing
redefined std_table (open_array done last) h = nothing
redefined array_table (value e) h = nothing
redefined array_table (open_table origin ns) h = nothing
redefined array_table (open_array done last) h = just (push_ascends done (table (close last)) h.0 (closed last h.1), tt)

found_kept : (k : List ℕ) (what : Definition) → DefinitionAscends what → (ns : Nodes) → NodesAscend ns
    → (there : Option Node) → Holds NodeAscends there → Holds NodesAscend (at_found k what ns there)
found_kept k what h ns s None t = just (inserted k (new_node what) ns (new_ascends what h) s)
found_kept k what h ns s (Some x) (just t) =
    map_holds NodeAscends NodesAscend (λ y. replace k y ns) (λ y n. replaced k y ns n s) (redefine what x)
    (redefined what x t)

at_key_keeps : (k : List ℕ) (what : Definition) → DefinitionAscends what → Keeps (at_key k what)
unfolding at_key
at_key_keeps k what h ns s = found_kept k what h ns s (get_node k ns) (got k ns s)

put_keeps : (key : Key) (d : Data) → IsSorted (from_data d) → Keeps (put key d)
put_keeps key d h = along_dots_keeps key.0 (at_key key.1 (key_value d)) (at_key_keeps key.1 (key_value d) h)

-- what was read is sorted: a value, a pair, items, members
abbrev SortedData : Data × List ℕ → Type 0
SortedData r = IsSorted (from_data r.0)

abbrev SortedPair : (Key × Data) × List ℕ → Type 0
SortedPair e = IsSorted (from_data e.0.1)

abbrev SortedItems : Items × List ℕ → Type 0
SortedItems r = NodesAreSorted (from_items r.0)

abbrev SortedMembers : Members × List ℕ → Type 0
SortedMembers r = EntriesAreSorted (from_members r.0)

-- the values that a reader gives are sorted
abbrev ReadsSorted : (List ℕ → Option (Data × List ℕ)) → Type 0
ReadsSorted read = (text : List ℕ) → Holds SortedData (read text)

module _ (read : List ℕ → Option (Data × List ℕ)) (reads : ReadsSorted read) where
  items_ascend : (n : ℕ) (found : Items) (text : List ℕ) → NodesAreSorted (from_items found)
      → Holds SortedItems (items read n found text)
  unfolding items
  items_ascend zero found text h = nothing
  items_ascend (suc n) found text h =
      if_holds SortedItems _ _ _ (just h)
      (then_holds SortedData SortedItems _
      (λ v sorted. then_holds (λ _. Unit {0}) SortedItems (items read n (push_item found v.0))
      (λ rest _. items_ascend n (push_item found v.0) rest (push_ascends found v.0 h sorted)) _ (any_holds _))
      _ (reads _))

  pair_ascends : (text : List ℕ) → Holds SortedPair (keyval read text)
  pair_ascends text =
      then_holds (λ _. Unit {0}) SortedPair _
      (λ k _. map_holds SortedData SortedPair (λ p. ((k.0, p.0), p.1)) (λ r s. s) (read k.1) (reads k.1))
      (key_equals text) (any_holds (key_equals text))

  members_ascend : (n : ℕ) (found : Nodes) (text : List ℕ) → NodesAscend found
      → Holds SortedMembers (members read n found text)
  unfolding members
  members_ascend zero found text h = nothing
  members_ascend (suc n) found text h =
      if_holds SortedMembers _ _ _ (just (closed found h))
      (then_holds SortedPair SortedMembers _
      (λ e sorted. then_holds NodesAscend SortedMembers _
      (λ more s. then_holds (λ _. Unit {0}) SortedMembers (members read n more)
      (λ rest _. members_ascend n more rest s) _ (any_holds _))
      (put e.0.0 e.0.1 found) (put_keeps e.0.0 e.0.1 sorted found h)) _ (pair_ascends _))

scalar_ascends : (s : Scalar) → IsSorted (from_data (scalar_data s))
scalar_ascends (Boolean b) = tt
scalar_ascends (Integer z) = tt
scalar_ascends (Float x) = tt
scalar_ascends (Datetime d) = tt

atom_ascends : ReadsSorted atom
unfolding atom
atom_ascends text =
    if_holds SortedData _ _ _
    (map_holds (λ _. Unit {0}) SortedData _ (λ r _. tt) (quoted text) (any_holds (quoted text)))
    (map_holds (λ _. Unit {0}) SortedData _ (λ r _. scalar_ascends r.0) (unquoted text) (any_holds (unquoted text)))

val_ascends : (depth : ℕ) → ReadsSorted (val depth)
unfolding val
val_ascends zero text = atom_ascends text
val_ascends (suc depth) text =
    if_holds SortedData _ _ _
    (map_holds SortedItems SortedData _ (λ r s. s) _ (items_ascend (val depth) (val_ascends depth) _ no_items _ tt))
    (if_holds SortedData _ _ _
    (map_holds SortedMembers SortedData _ (λ r s. s) _
    (members_ascend (val depth) (val_ascends depth) _ no_nodes _ tt)) (atom_ascends text))

-- the value of an expression is sorted
abbrev ExpressionAscends : Expression × List ℕ → Type 0
ExpressionAscends e = DefinitionAscends e.0.1

expression_ascends : (text : List ℕ) → Holds ExpressionAscends (expression text)
unfolding expression
expression_ascends text =
    let in_array = λ (k : Key) (rest : List ℕ). let e : Expression × List ℕ = ((k, array_table), rest) in e in
    let in_table = λ (r : Key × List ℕ). let e : Expression × List ℕ = ((r.0, std_table), r.1) in e in
    let in_pair = λ (r : (Key × Data) × List ℕ). let e : Expression × List ℕ = ((r.0.0, key_value r.0.1), r.1) in e in
    let array_header = λ (k : Key × List ℕ). option_map (in_array k.0) (after_byte right_bracket k.1) in
    if_holds ExpressionAscends (first text == left_bracket && slice_index text 1 == left_bracket)
    (option_and_then array_header (header_key (drop 2 text)))
    (if first text == left_bracket then option_map in_table (header_key (drop 1 text)) else option_map in_pair
    (keyval (val recursion_limit) text))
    (then_holds (λ _. Unit {0}) ExpressionAscends array_header
    (λ k _. map_holds (λ _. Unit {0}) ExpressionAscends (in_array k.0) (λ rest _. tt)
    (after_byte right_bracket k.1) (any_holds _)) (header_key (drop 2 text)) (any_holds _))
    (if_holds ExpressionAscends (first text == left_bracket) _ _
    (map_holds (λ _. Unit {0}) ExpressionAscends in_table (λ k _. tt) (header_key (drop 1 text)) (any_holds _))
    (map_holds SortedPair ExpressionAscends in_pair (λ p s. s) (keyval (val recursion_limit) text)
    (pair_ascends (val recursion_limit) (val_ascends recursion_limit) text)))

line_ascends : (text : List ℕ) → Holds ExpressionAscends (line text)
unfolding line
line_ascends text = then_holds ExpressionAscends ExpressionAscends _
    (λ e s. if_holds ExpressionAscends _ (Some e) None (just s) nothing) (expression text) (expression_ascends text)

-- the root of a document is sorted
abbrev DocumentAscends : Document → Type 0
DocumentAscends doc = NodesAscend doc.0

defined : (doc : Document) (key : Key) (what : Definition) → DocumentAscends doc → DefinitionAscends what
    → Holds DocumentAscends (define_as doc key what)
defined doc key (key_value d) s h =
    map_holds NodesAscend DocumentAscends _ (λ root r. r) _
    (along_header_keeps doc.1 (put key d) (put_keeps key d h) doc.0 s)
defined doc key std_table s h =
    map_holds NodesAscend DocumentAscends _ (λ root r. r) _
    (along_header_keeps key.0 (at_key key.1 std_table) (at_key_keeps key.1 std_table h) doc.0 s)
defined doc key array_table s h =
    map_holds NodesAscend DocumentAscends _ (λ root r. r) _
    (along_header_keeps key.0 (at_key key.1 array_table) (at_key_keeps key.1 array_table h) doc.0 s)

define_ascends : (doc : Document) (e : Expression) → DocumentAscends doc → DefinitionAscends e.1
    → Holds DocumentAscends (define doc e)
unfolding define
define_ascends doc e s h = defined doc e.0 e.1 s h

lines_ascend : (n : ℕ) (doc : Document) (text : List ℕ) → DocumentAscends doc → Holds DocumentAscends (lines n doc text)
unfolding lines
lines_ascend zero doc text s = nothing
lines_ascend (suc n) doc text s =
    if_holds DocumentAscends _ (Some doc) _ (just s)
    (then_holds ExpressionAscends DocumentAscends _
    (λ e h. then_holds DocumentAscends DocumentAscends (λ next. lines n next e.1)
    (λ next m. lines_ascend n next e.1 m) (define doc e.0) (define_ascends doc e.0 s h))
    (line _) (line_ascends _))

-- the keys of each table of a document ascend
pub document_sorted : (text : List ℕ) → Holds IsSorted (tree_of text)
unfolding parse_document
document_sorted text =
    map_holds (λ ms. EntriesAreSorted (from_members ms)) IsSorted _ (λ ms s. s) (parse_document text)
    (map_holds DocumentAscends (λ ms. EntriesAreSorted (from_members ms)) _ (λ doc s. closed doc.0 s) _
    (lines_ascend _ (no_nodes, []) (skip_bom text) tt))
