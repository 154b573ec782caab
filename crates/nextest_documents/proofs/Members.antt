-- A map whose entries were laid upon others, beside the members that it means.
use Rattle.std.proofs.Common.{rules, ◌≡◌, ℕ, List, [], ◌∷◌, ◌++◌, cond, Option, Some, None, String, Global, Ordering, Less, Equal, Greater, string_bytes, is_eq, refl, sym, ap, ◌∙◌, subst}
use Rattle.std.specs.List.Sorted.{IsStrictlySortedBy}
use Rattle.std.specs.Map.{keys_of, remove_entry}
use Rattle.std.specs.BTreeMap.{is_at}
use Rattle.std.specs.Option.{option_map_or}
use Rattle.std.specs.Ordering.{match_ordering}
use Rattle.std.specs.String.{string_cmp}
use Rattle.std.specs.BTreeMap.{BTreeMap}
use Rattle.std.specs.Global.{Vec}
use Rattle.nextest_tree.specs.declared.tree.Tree.{Tree, Table, the_lemmas}
use Rattle.nextest_tree.specs.Node.{Node, table, Entries, no_entries, entry, get, EntriesAreSorted}
use Rattle.nextest_tree.specs.View.{tree_view, entries_view}
use Rattle.nextest_documents.specs.Displaced.{Under, replaced, added, within, Unders, no_unders, under, displaced_by, entries_displaced_by}
use Rattle.nextest_documents.specs.DisplacedView.{displaced_view, displaced_entries_view}
use Rattle.nextest_documents.specs.Merge.{entries_over}
use Rattle.nextest_documents.specs.declared.laid.Displaced as the_own
use Rattle.nextest_documents.specs.declared.laid.Displaced.{Displaced, Replaced, Added, Within'}
use Rattle.nextest_documents.specs.declared.laid.Displaced.TheOpen.{Displaced-F}
use Rattle.nextest_documents.specs.declared.laid.Displaced.TheVariants.{rolls-Replaced, rolls-Added, rolls-Within}
use Rattle.nextest_documents.specs.declared.laid.Displaced.TheViews.{Within, roll-Displaced, out-Displaced, roll-out-Displaced}
use Rattle.nextest_documents.proofs.Laying.{cmp, with_last, laid_over, get-entries_over, get-above}
use Rattle.nextest_documents.proofs.Maps.{Entry, text_cmp}
use Rattle.nextest_documents.proofs.Parting.{without, HaveParted, IsNext, is_next}
use Rattle.nextest_documents.proofs.Steps.{below_all, members-last}

without_or : (o : Ordering) (e : Entry) (es others : List Entry) (rest : Entries) → entries_view others ≡ rest
    → entries_view (cond (is_eq o) es (e ∷ others))
    ≡ match_ordering o (entry (string_bytes e.0) (tree_view e.1) rest) (entries_view es)
    (entry (string_bytes e.0) (tree_view e.1) rest)
without_or Less e es others rest is = ap (entry (string_bytes e.0) (tree_view e.1)) is
without_or Equal e es others rest is = refl
without_or Greater e es others rest is = ap (entry (string_bytes e.0) (tree_view e.1)) is

-- what a removal from a map leaves
pub members-remove_entry : (k : List ℕ) (es : List Entry)
    → entries_view (remove_entry (is_at (text_cmp k)) es) ≡ without k (entries_view es)
members-remove_entry k [] = refl
members-remove_entry k (e ∷ es) = without_or (cmp k (string_bytes e.0)) e es _ _ (members-remove_entry k es)

-- what was displaced with one key more
abbrev last_under : Unders → List ℕ → Under → Unders
last_under no_unders k u = under k u no_unders
last_under (under l v us) k u = under l v (last_under us k u)

unders-last : (ds : List (String Global × Displaced)) (d : String Global × Displaced)
    → displaced_entries_view (ds ++ d ∷ [])
    ≡ last_under (displaced_entries_view ds) (string_bytes d.0) (displaced_view d.1)
unders-last [] d = refl
unders-last (x ∷ ds) d = ap (under (string_bytes x.0) (displaced_view x.1)) (unders-last ds d)

displaced_by-last : (es below : Entries) (k : List ℕ) (n : Node)
    → entries_displaced_by (with_last es k n) below
    ≡ last_under (entries_displaced_by es below) k (option_map_or (λ m. displaced_by n m) (get k below) added)
displaced_by-last no_entries below k n = refl
displaced_by-last (entry l m es) below k n =
    ap (under l (option_map_or (λ d. displaced_by m d) (get l below) added)) (displaced_by-last es below k n)

-- one more entry of the higher map was laid upon the lower one
pub displaced_last : (done : List Entry) (e : Entry) (rest : List Entry) (below now : Entries)
    (ds : List (String Global × Displaced)) (d : Displaced)
    → IsStrictlySortedBy string_cmp (keys_of (done ++ e ∷ rest))
    → now ≡ entries_over (entries_view done) below
    → displaced_entries_view ds ≡ entries_displaced_by (entries_view done) below
    → displaced_view d ≡ option_map_or (λ m. displaced_by (tree_view e.1) m) (get (string_bytes e.0) now) added
    → displaced_entries_view (ds ++ (e.0, d) ∷ []) ≡ entries_displaced_by (entries_view (done ++ e ∷ [])) below
displaced_last done e rest below now ds d sorted is all here =
    let k = string_bytes e.0 in
    let there : get k now ≡ get k below =
    ap (get k) is ∙ get-entries_over k (entries_view done) below
    ∙ ap (λ o. laid_over o (get k below)) (get-above k (entries_view done) (below_all done e rest sorted)) in
    unders-last ds (e.0, d)
    ∙ (λ i. last_under (all i) k
    ((here ∙ ap (λ o. option_map_or (λ m. displaced_by (tree_view e.1) m) o added) there) i))
    ∙ sym (displaced_by-last (entries_view done) below k (tree_view e.1))
    ∙ ap (λ es. entries_displaced_by es below) (sym (members-last done e))

-- a table's node, and what a table displaced
pub seen_table : (m : BTreeMap (String Global) Tree) → tree_view (Table m) ≡ table (entries_view m.entries)
seen_table m = search (rules, the_lemmas)

pub seen_within : (v : Vec (String Global × Displaced))
    → displaced_view (Within v) ≡ within (displaced_entries_view v.items)
seen_within v = search (rules, the_own.the_lemmas)

pub seen_replaced : (t : Tree) → displaced_view (Replaced t) ≡ replaced (tree_view t)
seen_replaced t = search (rules, the_own.the_lemmas)

added_at : (f : Displaced-F Displaced) (d : Displaced) → d ≡ roll-Displaced f → (d ≡ Added → ⊥)
    → displaced_view d ≡ added → ⊥
added_at (Displaced-F.Replaced t) d is other e =
    let no : added ≡ replaced (tree_view t) = sym e ∙ ap displaced_view (is ∙ rolls-Replaced t) ∙ seen_replaced t in
    let never : ⊥ = cc in never
added_at Displaced-F.Added d is other e = other (is ∙ rolls-Added)
added_at (Displaced-F.Within v) d is other e =
    let no : added ≡ within (displaced_entries_view v.items) =
    sym e ∙ ap displaced_view (is ∙ rolls-Within v) ∙ seen_within v in
    let never : ⊥ = cc in never

-- what is under an entry that did not come to where nothing stood
pub under_is : (above : Node) (there : Option Node) (d : Displaced) → (d ≡ Added → ⊥)
    → displaced_view d ≡ option_map_or (λ m. displaced_by above m) there added
    → (lower : Node) × (there ≡ Some lower) × (displaced_view d ≡ displaced_by above lower)
under_is above None d other is = absurd (added_at (out-Displaced d) d (sym (roll-out-Displaced d)) other is)
under_is above (Some lower) d other is = (lower, refl, is)

-- the next of what is taken off
pub next_of : (above below taken members : Entries) (ds left : List (String Global × Displaced))
    (key : String Global) (d : Displaced) (k : List ℕ) → EntriesAreSorted above → EntriesAreSorted below
    → ds ≡ (key, d) ∷ left → k ≡ string_bytes key
    → HaveParted above below taken members (displaced_entries_view ds)
    → IsNext above below taken members k (displaced_view d) (displaced_entries_view left)
next_of above below taken members ds left key d k sa sb step keyed parted =
    is_next above below taken members k (displaced_view d) (displaced_entries_view left) sa sb
    (subst (λ j. HaveParted above below taken members (under j (displaced_view d) (displaced_entries_view left)))
    (sym keyed) (subst (λ es. HaveParted above below taken members (displaced_entries_view es)) step parted))
