-- The texts of items and entries, and of one more.
use Rattle.std.proofs.Common.{◌≡◌, ◌<◌, ◌+◌, ◌∙◌, ◌==◌, ℕ, suc, false, List, [], ◌∷◌, ◌++◌, Option, Some, None, option_map, String, Global, ap, append_assoc, append-nil, arith, flat_map, get_or, length, map, refl, string_bytes, sym, take}
use Rattle.std.proofs.Math.Dec.{eqb-suc-zero}
use Rattle.std.proofs.lemmas.Grind.{flat_map-append}
use Rattle.std.proofs.lemmas.List.{length-map, length-take-le, map-append, take_more}
use Rattle.std.specs.Option.{option_map_or, option_to_list}
use Rattle.nextest_places.specs.Spans.Paths as paths
use Rattle.nextest_tree.specs.Node.{Node, Entries}
use Rattle.nextest_tree.specs.View.{entries_view, nodes_of, nodes_view, tree_view}
use Rattle.nextest_tree.specs.declared.tree.Tree.{Tree}
use Rattle.rinqebo_faults.specs.Edited.{entry_text, entry_texts, item_text, item_texts, separated, table_text, text_at, with_part, written_text}
use Rattle.rinqebo_faults.specs.Edits.{EditsView, mark_below}

abbrev pub Member : Type 0
Member = String Global × Tree

-- the first text has a character
abbrev pub IsSolid : List (List ℕ) → Type 0
IsSolid [] = Unit {0}
IsSolid ([] ∷ ts) = ⊥
IsSolid ((c ∷ cs) ∷ ts) = Unit {0}

-- a part goes behind a text that has a character
behind_text : (separator before part : List ℕ) → (length before == 0) ≡ false
    → with_part separator before (Some part) ≡ (before ++ separator) ++ part
behind_text separator before part some = rw some refl

-- a part goes behind the texts
pub separated_part : (separator : List ℕ) (ts : List (List ℕ)) (part : Option (List ℕ)) → IsSolid ts
    → with_part separator (separated separator ts) part ≡ separated separator (ts ++ option_to_list part)
separated_part separator ts None solid = ap (separated separator) (sym (append-nil ts))
separated_part separator [] (Some part) solid = sym (append-nil part)
separated_part separator ([] ∷ ts) (Some part) solid = absurd solid
separated_part separator ((c ∷ cs) ∷ ts) (Some part) solid =
    let later : List ℕ → List ℕ = λ t. separator ++ t in
    let rest = flat_map later ts in
    behind_text separator ((c ∷ cs) ++ rest) part (eqb-suc-zero (length (cs ++ rest)))
    ∙ append_assoc ((c ∷ cs) ++ rest) separator part
    ∙ append_assoc (c ∷ cs) rest (separator ++ part)
    ∙ ap (λ t. (c ∷ cs) ++ t) (ap (λ t. rest ++ t) (sym (append-nil (separator ++ part)))
    ∙ sym (flat_map-append later ts (part ∷ [])))

-- an entry has a character
solid_entry : (k : List ℕ) (value : Option (List ℕ)) (rest : List (List ℕ)) → IsSolid rest
    → IsSolid (option_to_list (option_map (entry_text k) value) ++ rest)
solid_entry k None rest solid = solid
solid_entry k (Some value) rest solid = tt

pub solid_entries : (edits : EditsView) (mark : List ℕ) (es : Entries) → IsSolid (entry_texts edits mark es)
solid_entries edits mark Entries.no_entries = tt
solid_entries edits mark (Entries.entry k n es) =
    let below = mark_below mark (paths.key k) in
    solid_entry k (text_at edits below (written_text edits below n)) (entry_texts edits mark es)
    (solid_entries edits mark es)

-- what is read of an entry
abbrev pub value_of : EditsView → List ℕ → List ℕ → Node → Option (List ℕ)
value_of edits mark k n =
    let below = mark_below mark (paths.key k) in text_at edits below (written_text edits below n)

-- the entries with one more
entry_texts-last : (edits : EditsView) (mark : List ℕ) (done : List Member) (e : Member)
    → entry_texts edits mark (entries_view (done ++ e ∷ []))
    ≡ entry_texts edits mark (entries_view done) ++ option_to_list
    (option_map (entry_text (string_bytes e.0)) (value_of edits mark (string_bytes e.0) (tree_view e.1)))
entry_texts-last edits mark [] e =
    append-nil (option_to_list
    (option_map (entry_text (string_bytes e.0)) (value_of edits mark (string_bytes e.0) (tree_view e.1))))
entry_texts-last edits mark (d ∷ done) e =
    let first = option_to_list
    (option_map (entry_text (string_bytes d.0)) (value_of edits mark (string_bytes d.0) (tree_view d.1))) in
    ap (λ ts. first ++ ts) (entry_texts-last edits mark done e)
    ∙ sym (append_assoc first (entry_texts edits mark (entries_view done)) (option_to_list
    (option_map (entry_text (string_bytes e.0)) (value_of edits mark (string_bytes e.0) (tree_view e.1)))))

-- the text of the entries with one more
pub one_entry : (edits : EditsView) (separator mark : List ℕ) (done : List Member) (e : Member) (old new : List ℕ)
    (value : Option (List ℕ)) → old ≡ separated separator (entry_texts edits mark (entries_view done))
    → value ≡ value_of edits mark (string_bytes e.0) (tree_view e.1)
    → new ≡ with_part separator old (option_map (entry_text (string_bytes e.0)) value)
    → new ≡ separated separator (entry_texts edits mark (entries_view (done ++ e ∷ [])))
one_entry edits separator mark done e old new value is same added =
    let so_far = entry_texts edits mark (entries_view done) in
    added
    ∙ (λ i. with_part separator (is i) (option_map (entry_text (string_bytes e.0)) (same i)))
    ∙ separated_part separator so_far
    (option_map (entry_text (string_bytes e.0)) (value_of edits mark (string_bytes e.0) (tree_view e.1)))
    (solid_entries edits mark (entries_view done))
    ∙ ap (separated separator) (sym (entry_texts-last edits mark done e))

-- the text of all entries, and of what is added
pub all_entries : (edits : EditsView) (separator mark : List ℕ) (all done left : List Member) (old new : List ℕ)
    (part more : Option (List ℕ)) → all ≡ done ++ left → left ≡ []
    → old ≡ separated separator (entry_texts edits mark (entries_view done)) → part ≡ more
    → new ≡ with_part separator old part
    → new ≡ table_text separator (entry_texts edits mark (entries_view all)) more
all_entries edits separator mark all done left old new part more parted none is same added =
    added
    ∙ (λ i. with_part separator (is i) (same i))
    ∙ separated_part separator (entry_texts edits mark (entries_view done)) more
    (solid_entries edits mark (entries_view done))
    ∙ ap (λ es. table_text separator (entry_texts edits mark (entries_view es)) more)
    (sym (parted ∙ ap (λ es. done ++ es) none ∙ append-nil done))

-- what is read of an item
abbrev pub item_of : EditsView → List ℕ → ℕ → Node → Option (List ℕ)
item_of edits mark position n =
    let below = mark_below mark (paths.position position) in text_at edits below (written_text edits below n)

-- the items with one more
item_texts-last : (edits : EditsView) (mark : List ℕ) (at : ℕ) (done : List Node) (n : Node) (next : ℕ)
    → next ≡ at + length done
    → item_texts edits mark at (nodes_of (done ++ n ∷ []))
    ≡ item_texts edits mark at (nodes_of done) ++ option_to_list (item_of edits mark next n)
item_texts-last edits mark at [] n next is =
    let here : at ≡ next = omega arith in
    append-nil (option_to_list (item_of edits mark at n))
    ∙ ap (λ k. option_to_list (item_of edits mark k n)) here
item_texts-last edits mark at (d ∷ done) n next is =
    ap (λ ts. option_to_list (item_of edits mark at d) ++ ts)
    (item_texts-last edits mark (suc at) done n next (omega arith))
    ∙ sym (append_assoc (option_to_list (item_of edits mark at d)) (item_texts edits mark (suc at) (nodes_of done))
    (option_to_list (item_of edits mark next n)))

-- one item as a text
item_there : (value : Option (List ℕ))
    → flat_map item_text (option_to_list value) ≡ option_map_or item_text value []
item_there None = refl
item_there (Some value) = append-nil (item_text value)

-- how many items were taken
counted : (i : ℕ) (items : List Tree) → i < length items → i ≡ length (map tree_view (take i items))
counted i items below =
    sym (length-map (take i items) tree_view ∙ length-take-le i items (omega arith))

-- the text of the items with one more
pub one_item : (edits : EditsView) (mark : List ℕ) (items : List Tree) (i : ℕ) (item d : Tree) (old new : List ℕ)
    (value : Option (List ℕ)) → i < length items → item ≡ get_or items i d
    → old ≡ flat_map item_text (item_texts edits mark 0 (nodes_view (take i items)))
    → value ≡ item_of edits mark i (tree_view item)
    → new ≡ old ++ option_map_or item_text value []
    → new ≡ flat_map item_text (item_texts edits mark 0 (nodes_view (take (i + 1) items)))
one_item edits mark items i item d old new value below same is read added =
    let front = map tree_view (take i items) in
    let one = item_of edits mark i (tree_view item) in
    let taken : map tree_view (take (i + 1) items) ≡ front ++ tree_view item ∷ [] =
    ap (map tree_view) (take_more items i d below ∙ ap (λ z. take i items ++ z ∷ []) (sym same))
    ∙ map-append tree_view (take i items) (item ∷ []) in
    let count : i ≡ 0 + length front = omega (arith, counted i items below) in
    added ∙ (λ j. is j ++ option_map_or item_text (read j) [])
    ∙ ap (λ t. flat_map item_text (item_texts edits mark 0 (nodes_of front)) ++ t) (sym (item_there one))
    ∙ sym (flat_map-append item_text (item_texts edits mark 0 (nodes_of front)) (option_to_list one))
    ∙ ap (flat_map item_text) (sym (item_texts-last edits mark 0 front (tree_view item) i count)
    ∙ ap (λ ns. item_texts edits mark 0 (nodes_of ns)) (sym taken))
