-- The leaves that files write at keys that are shown as they are written.
use Rattle.std.proofs.Common.{◌≡◌, ◌<◌, ◌+◌, ◌∙◌, ℕ, zero, suc, List, [], ◌∷◌, ◌++◌, Bool, true, false, cond, Option, Some, None, String, Global, add-one, ap, append_assoc, append-nil, arith, drop, flat_map, get_or, length, map, refl, string_bytes, subst, sym, take}
use Rattle.std.proofs.Math.Seq.{drop-cons}
use Rattle.std.proofs.lemmas.Grind.{flat_map-append}
use Rattle.std.proofs.lemmas.List.{length-map, length-take-le, map-append, take_more}
use Rattle.nextest_tables.specs.Written.{Name}
use Rattle.nextest_tree.specs.Node.{Node, table, array, text, int, bool, opaque, as_text}
use Rattle.nextest_tree.specs.View.{entries_view, nodes_of, nodes_view, tree_view}
use Rattle.nextest_tree.specs.declared.tree.Tree.{Tree}
use Rattle.rinqebo_origins.specs.LeafValue.{are_texts}
use Rattle.rinqebo_origins.specs.Origins.{PathStep, key, position}
use Rattle.rinqebo_origins.specs.SpelledLeaves.{Spelled, Spot, item_leaves, leaves_in, member_leaves, spots_at}

-- one layer of places more
pub one_spot : (profile : Option Name) (name : List ℕ) (n m at : ℕ) (so_far all new : List Spot) → n ≡ suc at
    → m ≡ at → so_far ++ spots_at profile name n ≡ all
    → new ≡ so_far ++ record { profile = profile; key_is = name; layer = at } ∷ []
    → new ++ spots_at profile name m ≡ all
one_spot profile name n m at so_far all new before after is added =
    rw (added, after) (append_assoc so_far (record { profile = profile; key_is = name; layer = at } ∷ [])
    (spots_at profile name at))
    ∙ ap (λ k. so_far ++ spots_at profile name k) (sym before) ∙ is

-- no layer is left
pub all_spots_there : (profile : Option Name) (name : List ℕ) (n : ℕ) (so_far all : List Spot) → n ≡ 0
    → so_far ++ spots_at profile name n ≡ all → so_far ≡ all
all_spots_there profile name n so_far all none is =
    sym (append-nil so_far) ∙ ap (λ k. so_far ++ spots_at profile name k) (sym none) ∙ is

-- three lists, one behind another
pub three_behind : {X : Type 0} (old a b c one two three : List X) → one ≡ old ++ a → two ≡ one ++ b
    → three ≡ two ++ c → three ≡ old ++ (a ++ (b ++ c))
three_behind old a b c one two three first second third =
    third ∙ ap (λ l. l ++ c) (second ∙ ap (λ l. l ++ b) first)
    ∙ append_assoc (old ++ a) b c ∙ append_assoc old a (b ++ c)

-- two lists, one behind another
pub two_behind : {X : Type 0} (old a b one two : List X) → one ≡ old ++ a → two ≡ one ++ b → two ≡ old ++ (a ++ b)
two_behind old a b one two first second =
    second ∙ ap (λ l. l ++ b) first ∙ append_assoc old a b

-- what f gives for one element more
pub flat_more : {X Y : Type 0} (f : X → List Y) (xs : List X) (i : ℕ) (x d : X) → i < length xs → x ≡ get_or xs i d
    → flat_map f (take (i + 1) xs) ≡ flat_map f (take i xs) ++ f x
flat_more f xs i x d below same =
    ap (flat_map f) (take_more xs i d below ∙ ap (λ z. take i xs ++ z ∷ []) (sym same))
    ∙ flat_map-append f (take i xs) (x ∷ []) ∙ ap (λ l. flat_map f (take i xs) ++ l) (append-nil (f x))

-- what f gives for the elements so far and for one more
pub flat_step : {X Y : Type 0} (f : X → List Y) (xs : List X) (i : ℕ) (x d : X) → i < length xs → x ≡ get_or xs i d
    → (old new : List Y) → old ≡ flat_map f (take i xs) → new ≡ old ++ f x → new ≡ flat_map f (take (i + 1) xs)
flat_step f xs i x d below same old new is added =
    added ∙ ap (λ l. l ++ f x) is ∙ sym (flat_more f xs i x d below same)

-- behind an item that is a text
text_first : (item : Node) (items : List Node) (t : List ℕ) → Some t ≡ as_text item
    → are_texts (nodes_of (item ∷ items)) ≡ are_texts (nodes_of items)
text_first (table es) items t some = absurd cc
text_first (array nodes) items t some = absurd cc
text_first (text u) items t some = refl
text_first (int z) items t some = absurd cc
text_first (bool b) items t some = absurd cc
text_first opaque items t some = absurd cc

-- one item more that is a text
pub text_more : (items : List Tree) (i : ℕ) (item d : Tree) (t : List ℕ) → i < length items
    → item ≡ get_or items i d → Some t ≡ as_text (tree_view item)
    → are_texts (nodes_view (drop i items)) ≡ are_texts (nodes_view items)
    → are_texts (nodes_view (drop (i + 1) items)) ≡ are_texts (nodes_view items)
text_more items i item d t below same some is =
    let split : drop i items ≡ item ∷ drop (i + 1) items =
    drop-cons items i d below ∙ (λ j. sym same j ∷ drop (suc i) items) ∙ ap (λ k. item ∷ drop k items) (sym (add-one i)) in
    sym (text_first (tree_view item) (map tree_view (drop (i + 1) items)) t some)
    ∙ sym (ap (λ ts. are_texts (nodes_view ts)) split) ∙ is

-- no text is left
pub texts_end : (items : List Tree) (i : ℕ) → drop i items ≡ []
    → are_texts (nodes_view (drop i items)) ≡ are_texts (nodes_view items) → true ≡ are_texts (nodes_view items)
texts_end items i none is = ap (λ ts. are_texts (nodes_view ts)) (sym none) ∙ is

abbrev pub Member : Type 0
Member = String Global × Tree

-- the leaves of one member more
member_leaves-last : (spot : Spot) (steps : List PathStep) (done : List Member) (e : Member)
    → member_leaves spot steps (entries_view (done ++ e ∷ []))
    ≡ member_leaves spot steps (entries_view done)
    ++ leaves_in spot (steps ++ key (string_bytes e.0) ∷ []) (tree_view e.1)
member_leaves-last spot steps [] e = append-nil (leaves_in spot (steps ++ key (string_bytes e.0) ∷ []) (tree_view e.1))
member_leaves-last spot steps (d ∷ done) e =
    ap (λ ls. leaves_in spot (steps ++ key (string_bytes d.0) ∷ []) (tree_view d.1) ++ ls)
    (member_leaves-last spot steps done e)
    ∙ sym (append_assoc (leaves_in spot (steps ++ key (string_bytes d.0) ∷ []) (tree_view d.1))
    (member_leaves spot steps (entries_view done))
    (leaves_in spot (steps ++ key (string_bytes e.0) ∷ []) (tree_view e.1)))

pub one_member : (spot : Spot) (steps longer : List PathStep) (e : Member) (done : List Member)
    (old so_far new : List Spelled) → longer ≡ steps ++ key (string_bytes e.0) ∷ []
    → so_far ≡ old ++ member_leaves spot steps (entries_view done)
    → new ≡ so_far ++ leaves_in spot longer (tree_view e.1)
    → new ≡ old ++ member_leaves spot steps (entries_view (done ++ e ∷ []))
one_member spot steps longer e done old so_far new long is added =
    added ∙ (λ i. is i ++ leaves_in spot (long i) (tree_view e.1))
    ∙ append_assoc old (member_leaves spot steps (entries_view done))
    (leaves_in spot (steps ++ key (string_bytes e.0) ∷ []) (tree_view e.1))
    ∙ ap (λ ls. old ++ ls) (sym (member_leaves-last spot steps done e))

-- the leaves of one item more
item_leaves-last : (spot : Spot) (steps : List PathStep) (at : ℕ) (done : List Node) (n : Node) (next : ℕ)
    → next ≡ at + length done
    → item_leaves spot steps at (nodes_of (done ++ n ∷ []))
    ≡ item_leaves spot steps at (nodes_of done) ++ leaves_in spot (steps ++ position next ∷ []) n
item_leaves-last spot steps at [] n next is =
    let here : at ≡ next = omega arith in
    append-nil (leaves_in spot (steps ++ position at ∷ []) n)
    ∙ ap (λ k. leaves_in spot (steps ++ position k ∷ []) n) here
item_leaves-last spot steps at (d ∷ done) n next is =
    ap (λ ls. leaves_in spot (steps ++ position at ∷ []) d ++ ls)
    (item_leaves-last spot steps (suc at) done n next (omega arith))
    ∙ sym (append_assoc (leaves_in spot (steps ++ position at ∷ []) d) (item_leaves spot steps (suc at) (nodes_of done))
    (leaves_in spot (steps ++ position next ∷ []) n))

-- how many items were taken
counted : (i : ℕ) (items : List Tree) → i < length items → i ≡ length (map tree_view (take i items))
counted i items below =
    sym (length-map (take i items) tree_view ∙ length-take-le i items (omega arith))

pub one_item : (spot : Spot) (steps longer : List PathStep) (items : List Tree) (i : ℕ) (item d : Tree)
    (old so_far new : List Spelled) → i < length items → item ≡ get_or items i d
    → longer ≡ steps ++ position i ∷ []
    → so_far ≡ old ++ item_leaves spot steps 0 (nodes_view (take i items))
    → new ≡ so_far ++ leaves_in spot longer (tree_view item)
    → new ≡ old ++ item_leaves spot steps 0 (nodes_view (take (i + 1) items))
one_item spot steps longer items i item d old so_far new below same long is added =
    let front = map tree_view (take i items) in
    let taken : map tree_view (take (i + 1) items) ≡ front ++ tree_view item ∷ [] =
    ap (map tree_view) (take_more items i d below ∙ ap (λ z. take i items ++ z ∷ []) (sym same))
    ∙ map-append tree_view (take i items) (item ∷ []) in
    let count : i ≡ 0 + length front = omega (arith, counted i items below) in
    added ∙ (λ j. is j ++ leaves_in spot (long j) (tree_view item))
    ∙ append_assoc old (item_leaves spot steps 0 (nodes_of front)) (leaves_in spot (steps ++ position i ∷ []) (tree_view item))
    ∙ ap (λ ls. old ++ ls) (sym (item_leaves-last spot steps 0 front (tree_view item) i (count))
    ∙ ap (λ ns. item_leaves spot steps 0 (nodes_of ns)) (sym taken))
