-- What a side gives to the whole run is the same each time.
use Rattle.std.proofs.Common.{◌≡◌, ◌∙◌, ℕ, Bool, true, not, Less, Greater, List, [], ◌∷◌, ◌++◌, Some, Contains, String, Global, codes, filter, length, map, nat_cmp, option_map, string_bytes, refl, sym, ap, subst}
use Rattle.std.specs.List.{AllZip}
use Rattle.std.specs.Cmp.{then_flip}
use Rattle.std.specs.Ordering.{ordering_reverse, ordering_then}
use Rattle.std.proofs.lemmas.Cmp.{lists_total, nat_cmp_total, nat_list_cmp_total}
use Rattle.nextest_documents.specs.Entries.{leaf_cmp, path_cmp, AreEntries, IsLeaf, IsWanted, Leaf}
use Rattle.nextest_documents.specs.Sections.{Region, beside, of_profile, region_cmp, regions}
use Rattle.nextest_tree.specs.Node.{Node, Nodes, array, bool, int, no_nodes, node, opaque, table, text}
use Rattle.nextest_tree.specs.View.{nodes_of}
use Rattle.rinqebo_request.specs.declared.files.layers.Layer.{Layer}
use Rattle.rinqebo_report.specs.declared.report.Entry.{Entry}
use Rattle.rinqebo_report.specs.declared.report.ListWrapper.{ListWrapper}
use Rattle.rinqebo_report.specs.declared.report.SettingRow.{SettingRow}
use Rattle.rinqebo_report.specs.declared.value.Scalar.TheVariants as scalars
use Rattle.rinqebo_report.specs.declared.value.Value.{Value}
use Rattle.rinqebo_report.specs.declared.value.Value.TheVariants as values
use Rattle.rinqebo_origins.specs.LeafValue.{is_spelled, is_tellable, text_node, value_node}
use Rattle.rinqebo_rules.specs.Scripts.{wrapper_view}
use Rattle.rinqebo_results.specs.ShownConfig.{ReportsLeaf, TellLeaves}
use Rattle.rinqebo_changes.specs.Keyed.{AreAlike}
use Rattle.rinqebo_changes.specs.Sides.RunRows.{is_of_run, is_of_tests, IsEntryRow, IsWrapperRow}
use Rattle.rinqebo_changes.specs.ValueViews as plain
use Rattle.rinqebo_changes.proofs.Zips.{zip_behind}
use Rattle.rinqebo_diff.specs.RunChanges.{AreRunRowsOf}
use Rattle.rinqebo_diff.specs.Sides.{Evaluation}
use Rattle.rinqebo_diff.proofs.InOrder.{all_contains, same_sorted}
use Rattle.rinqebo_diff.proofs.TurnedRows.{both_kept}

-- ---- leaves

region_turned : (a b : Region) → region_cmp a b ≡ ordering_reverse (region_cmp b a)
region_turned (of_profile nearer name) (of_profile others other) =
    nat_cmp_total.antisymm (length nearer) (length others)
region_turned (of_profile nearer name) beside = refl
region_turned beside (of_profile others other) = refl
region_turned beside beside = refl

-- two leaves are in one order
leaf_turned : (a b : Leaf) → leaf_cmp a b ≡ ordering_reverse (leaf_cmp b a)
leaf_turned a b =
    let path = path_cmp b.path a.path in
    let region = region_cmp b.region a.region in
    let layer = nat_cmp a.layer b.layer in
    (λ i. ordering_then ((lists_total nat_list_cmp_total).antisymm a.path b.path i)
    (ordering_then (region_turned a.region b.region i) (nat_cmp_total.antisymm b.layer a.layer i)))
    ∙ ap (ordering_then (ordering_reverse path)) (then_flip region layer)
    ∙ then_flip path (ordering_then region layer)

leaves_apart : (a b : Leaf) → leaf_cmp a b ≡ Less → leaf_cmp b a ≡ Less → ⊥
leaves_apart a b one two =
    let no : Less ≡ Greater = sym one ∙ leaf_turned a b ∙ ap ordering_reverse two in absurd (cc)

-- the leaves that count are the same each time
one_list : (layers : List Node) (chain keys : List (List ℕ)) (with_hidden : Bool) (xs ys : List Leaf)
    → AreEntries layers chain keys with_hidden xs → AreEntries layers chain keys with_hidden ys → xs ≡ ys
one_list layers chain keys with_hidden xs ys one two =
    same_sorted leaf_cmp leaves_apart xs ys one.ascend two.ascend (among xs ys one two) (among ys xs two one)
  where
    among : (ls ms : List Leaf) → AreEntries layers chain keys with_hidden ls
        → AreEntries layers chain keys with_hidden ms → (leaf : Leaf) → Contains ls leaf → Contains ms leaf
    among ls ms is are leaf has =
        are.complete leaf (all_contains (λ l. Contains (regions chain) l.region) ls leaf is.within has)
        (all_contains (IsLeaf layers keys) ls leaf is.sound has)
        (all_contains (IsWanted with_hidden) ls leaf is.wanted has)

-- ---- values

abbrev texts_read : Nodes → List (List ℕ)
texts_read no_nodes = []
texts_read (node (text t) items) = t ∷ texts_read items
texts_read (node (table es) items) = texts_read items
texts_read (node (array ns) items) = texts_read items
texts_read (node (int z) items) = texts_read items
texts_read (node (bool b) items) = texts_read items
texts_read (node opaque items) = texts_read items

-- the value that a file writes with a leaf
abbrev value_read : Node → plain.PlainValue
value_read (table es) = plain.table []
value_read (array items) = plain.texts (texts_read items)
value_read (text t) = plain.scalar (plain.text t)
value_read (int z) = plain.scalar (plain.integer z)
value_read (bool b) = plain.scalar (plain.boolean b)
value_read opaque = plain.table []

read_texts : (ts : List (String Global)) → texts_read (nodes_of (map text_node ts)) ≡ map string_bytes ts
read_texts [] = refl
read_texts (t ∷ ts) = ap (λ rest. string_bytes t ∷ rest) (read_texts ts)

-- a value that is as a file spells it is read from what the file has
read_value : (v : Value) → is_spelled v ≡ true → is_tellable (value_node v) ≡ true
    → value_read (value_node v) ≡ plain.value_view v
read_value (values.Scalar (scalars.Boolean b)) spelled told = refl
read_value (values.Scalar (scalars.Integer n)) spelled told = refl
read_value (values.Scalar (scalars.Text t)) spelled told = refl
read_value (values.Scalar (scalars.Duration d)) spelled told = absurd (cc)
read_value (values.Texts ts) spelled told = ap plain.texts (read_texts ts.items)
read_value (values.Table fs) spelled told = absurd (cc)

-- Two leaves are reported alike.
record IsToldAlike (one other : Entry) : Type 0 where
  key : string_bytes one.key ≡ string_bytes other.key
  value : plain.value_view one.value ≡ plain.value_view other.value

-- a leaf is reported twice alike
told_twice : (layers : List Layer) (leaf : Leaf) (one other : Entry) → ReportsLeaf layers leaf one
    → ReportsLeaf layers leaf other → IsToldAlike one other
told_twice layers leaf one other is are =
    let first = is.is_entry.value in
    let second = are.is_entry.value in record {
      key = is.is_entry.key ∙ sym are.is_entry.key;
      value = sym (read_value one.value first.spelled (ap is_tellable first.same ∙ first.told))
          ∙ ap value_read (first.same ∙ sym second.same)
          ∙ read_value other.value second.spelled (ap is_tellable second.same ∙ second.told);
    }

each_twice : (layers : List Layer) (leaves : List Leaf) (xs ys : List Entry) → AllZip (ReportsLeaf layers) leaves xs
    → AllZip (ReportsLeaf layers) leaves ys → AllZip IsToldAlike xs ys
each_twice layers [] [] [] one two = tt
each_twice layers [] [] (y ∷ ys) one two = absurd two
each_twice layers [] (x ∷ xs) ys one two = absurd one
each_twice layers (l ∷ ls) [] ys one two = absurd one
each_twice layers (l ∷ ls) (x ∷ xs) [] one two = absurd two
each_twice layers (l ∷ ls) (x ∷ xs) (y ∷ ys) one two =
    (told_twice layers l x y one.0 two.0, each_twice layers ls xs ys one.1 two.1)

-- ---- rows

-- leaves of the whole run
runs_alike : (xs ys : List Entry) → AllZip IsToldAlike xs ys → AllZip IsToldAlike (filter is_of_run xs) (filter is_of_run ys)
runs_alike [] [] all = tt
runs_alike [] (y ∷ ys) all = absurd all
runs_alike (x ∷ xs) [] all = absurd all
runs_alike (x ∷ xs) (y ∷ ys) all =
    both_kept IsToldAlike (is_of_run x) (is_of_run y) x y (filter is_of_run xs) (filter is_of_run ys)
    (ap (λ key. not (is_of_tests key)) (sym all.0.key)) all.0 (runs_alike xs ys all.1)

rows_alike : (es fs : List Entry) (xs ys : List SettingRow) → AllZip IsToldAlike es fs → AllZip IsEntryRow es xs
    → AllZip IsEntryRow fs ys → AllZip AreAlike xs ys
rows_alike [] [] [] [] all one two = tt
rows_alike [] [] [] (y ∷ ys) all one two = absurd two
rows_alike [] [] (x ∷ xs) ys all one two = absurd one
rows_alike [] (f ∷ fs) xs ys all one two = absurd all
rows_alike (e ∷ es) [] xs ys all one two = absurd all
rows_alike (e ∷ es) (f ∷ fs) [] ys all one two = absurd one
rows_alike (e ∷ es) (f ∷ fs) (x ∷ xs) [] all one two = absurd two
rows_alike (e ∷ es) (f ∷ fs) (x ∷ xs) (y ∷ ys) all one two = (
  record {
    key = ap string_bytes one.0.key ∙ all.0.key ∙ sym (ap string_bytes two.0.key);
    value = ap (option_map plain.value_view) one.0.value ∙ ap Some all.0.value
        ∙ sym (ap (option_map plain.value_view) two.0.value);
  },
  rows_alike es fs xs ys all.1 one.1 two.1,
)

wrappers_alike : (ws vs : List ListWrapper) (xs ys : List SettingRow) → map wrapper_view ws ≡ map wrapper_view vs
    → AllZip IsWrapperRow ws xs → AllZip IsWrapperRow vs ys → AllZip AreAlike xs ys
wrappers_alike [] [] [] [] same one two = tt
wrappers_alike [] [] [] (y ∷ ys) same one two = absurd two
wrappers_alike [] [] (x ∷ xs) ys same one two = absurd one
wrappers_alike [] (v ∷ vs) xs ys same one two = absurd (cc)
wrappers_alike (w ∷ ws) [] xs ys same one two = absurd (cc)
wrappers_alike (w ∷ ws) (v ∷ vs) [] ys same one two = absurd one
wrappers_alike (w ∷ ws) (v ∷ vs) (x ∷ xs) [] same one two = absurd two
wrappers_alike (w ∷ ws) (v ∷ vs) (x ∷ xs) (y ∷ ys) same one two =
    let first : wrapper_view w ≡ wrapper_view v = cc in
    let rest : map wrapper_view ws ≡ map wrapper_view vs = cc in (
      record {
        key = one.0.key ∙ ap (λ (p : List ℕ × List ℕ). codes "list-wrapper of " ++ p.0) first ∙ sym two.0.key;
        value = ap (option_map plain.value_view) one.0.value
            ∙ ap (λ (p : List ℕ × List ℕ). Some (plain.scalar (plain.text p.1))) first
            ∙ sym (ap (option_map plain.value_view) two.0.value);
      },
      wrappers_alike ws vs xs ys rest one.1 two.1,
    )

-- a side gives the whole run the same rows each time
pub one_run : (side : Evaluation) (before after : List SettingRow) → AreRunRowsOf side before
    → AreRunRowsOf side after → AllZip AreAlike before after
one_run side before after one two =
    let first = one.are_entries in
    let second = two.are_entries in
    let leaves : second.leaves ≡ first.leaves =
    one_list _ _ _ _ second.leaves first.leaves second.are_leaves first.are_leaves in
    let layers = side.session.layers.items in
    let told : TellLeaves layers first.leaves two.entries =
    subst (λ ls. TellLeaves layers ls two.entries) leaves second.told in
    let entries : AllZip IsToldAlike one.entries two.entries =
    each_twice layers _ one.entries two.entries first.told told in
    let rows = one.are_rows in
    let others = two.are_rows in
    let of_leaves : AllZip AreAlike rows.leaves others.leaves =
    rows_alike (filter is_of_run one.entries) (filter is_of_run two.entries) rows.leaves others.leaves
    (runs_alike one.entries two.entries entries) rows.are_leaves others.are_leaves in
    let of_setup : AreAlike rows.setup others.setup = record {
      key = rows.is_setup.key ∙ sym others.is_setup.key;
      value = ap (option_map plain.value_view) rows.is_setup.value
          ∙ ap (λ (ts : List (List ℕ)). Some (plain.texts ts))
          (one.are_scripts.setup_reported ∙ sym two.are_scripts.setup_reported)
          ∙ sym (ap (option_map plain.value_view) others.is_setup.value);
    } in
    let of_wrappers : AllZip AreAlike rows.wrappers others.wrappers =
    wrappers_alike one.scripts.list_wrappers.items two.scripts.list_wrappers.items rows.wrappers others.wrappers
    (one.are_scripts.wrappers_reported ∙ sym two.are_scripts.wrappers_reported) rows.are_wrappers others.are_wrappers in
    subst (λ xs. AllZip AreAlike xs after) (sym rows.are_rows)
    (subst (AllZip AreAlike ((rows.leaves ++ rows.setup ∷ []) ++ rows.wrappers)) (sym others.are_rows)
    (zip_behind AreAlike (rows.leaves ++ rows.setup ∷ []) rows.wrappers (others.leaves ++ others.setup ∷ [])
    others.wrappers
    (zip_behind AreAlike rows.leaves (rows.setup ∷ []) others.leaves (others.setup ∷ []) of_leaves (of_setup, tt))
    of_wrappers))
