-- Groups have all changes of tests, and those of a group are the same.
use Rattle.std.proofs.Common.{◌≡◌, ◌∙◌, ◌&&◌, ◌==◌, ℕ, Bool, true, List, Option, [], ◌∷◌, ◌++◌, map, flat_map, option_map, refl, sym, ap, subst}
use Rattle.std.specs.Bool.{beq, Decides}
use Rattle.std.specs.Cmp.{booleans_Decides}
use Rattle.std.specs.List.{All, AllByRecursion, AllZip}
use Rattle.std.specs.List.Sorted.{IsPermutation}
use Rattle.std.specs.Option.{option_eq}
use Rattle.std.proofs.lemmas.Bool.Decides.{Decides-and, Decides-eqb, Decides-like}
use Rattle.std.proofs.lemmas.List.Elements.{All-contains, All-from_recursion, All-weaker}
use Rattle.std.proofs.lemmas.List.Sorted.{All-permutation, IsPermutation-refl, IsPermutation-trans, IsPermutation-append, IsPermutation-map}
use Rattle.rinqebo_changes.specs.declared.change.RowChange.{RowChange}
use Rattle.rinqebo_changes.specs.declared.change.SideRow.{SideRow}
use Rattle.rinqebo_changes.specs.declared.change.TestChanges.{TestChanges}
use Rattle.rinqebo_changes.specs.declared.classes.ClassRule.TheVariants.{Row, Binary}
use Rattle.rinqebo_changes.specs.declared.classes.Class.{Class}
use Rattle.rinqebo_changes.specs.declared.classes.Item.{Item}
use Rattle.rinqebo_changes.specs.declared.groups.Group.{Group}
use Rattle.rinqebo_changes.specs.Classes.{class_items, item_view, same_item, same_row}
use Rattle.rinqebo_changes.specs.Groups.{AreGroups, IsGroup}
use Rattle.rinqebo_changes.specs.Laws.{IsUniform}
use Rattle.rinqebo_changes.specs.OriginViews.{PlainOrigin, origin_view}
use Rattle.rinqebo_changes.specs.Same.{same_value}
use Rattle.rinqebo_changes.specs.SameOrigin.{same_origins}
use Rattle.rinqebo_changes.specs.ValueViews.{PlainValue, value_view}
use Rattle.rinqebo_changes.specs.WholeGroups.{given_view, change_view, group_items, IsOneChange, AreWholeGroups}
use Rattle.rinqebo_changes.proofs.ClassLists.{whole_classes}
use Rattle.rinqebo_changes.proofs.Deciding.{pair_both, both_of_pair}
use Rattle.rinqebo_changes.proofs.SameOrigins.{origins_decide}
use Rattle.rinqebo_changes.proofs.SameValues.{setting_decides}

-- the value of a row, and whether a list says that the test is ignored
abbrev value_part : SideRow → Option PlainValue × Bool
value_part given = (option_map value_view given.row.value, given.is_ignored)

-- the place of the setting of a change, and what the left side gives
abbrev left_part : RowChange → ℕ × ((Option PlainValue × Bool) × List PlainOrigin)
left_part row = (row.place, given_view row.from)

value_decides : (a b : SideRow)
    → Decides (option_eq same_value a.row.value b.row.value && beq a.is_ignored b.is_ignored) (value_part a ≡ value_part b)
value_decides a b =
    Decides-like (option_eq same_value a.row.value b.row.value && beq a.is_ignored b.is_ignored)
    (pair_both (option_map value_view a.row.value) (option_map value_view b.row.value) a.is_ignored b.is_ignored)
    (both_of_pair (value_part a) (value_part b))
    (Decides-and (option_eq same_value a.row.value b.row.value) (beq a.is_ignored b.is_ignored)
    (setting_decides a.row.value b.row.value) (booleans_Decides a.is_ignored b.is_ignored))

-- the test of two rows decides whether they give the same
given_decides : (a b : SideRow) → Decides (same_row a b) (given_view a ≡ given_view b)
given_decides a b =
    Decides-like (same_row a b)
    (pair_both (value_part a) (value_part b) (map origin_view a.row.origins.items) (map origin_view b.row.origins.items))
    (both_of_pair (given_view a) (given_view b))
    (Decides-and (option_eq same_value a.row.value b.row.value && beq a.is_ignored b.is_ignored)
    (same_origins a.row.origins.items b.row.origins.items) (value_decides a b)
    (origins_decide a.row.origins.items b.row.origins.items))

left_decides : (r s : RowChange) → Decides (r.place == s.place && same_row r.from s.from) (left_part r ≡ left_part s)
left_decides r s =
    Decides-like (r.place == s.place && same_row r.from s.from)
    (pair_both r.place s.place (given_view r.from) (given_view s.from)) (both_of_pair (left_part r) (left_part s))
    (Decides-and (r.place == s.place) (same_row r.from s.from) (Decides-eqb r.place s.place) (given_decides r.from s.from))

change_decides : (r s : RowChange)
    → Decides ((r.place == s.place && same_row r.from s.from) && same_row r.to s.to) (change_view r ≡ change_view s)
change_decides r s =
    Decides-like ((r.place == s.place && same_row r.from s.from) && same_row r.to s.to)
    (pair_both (left_part r) (left_part s) (given_view r.to) (given_view s.to))
    (both_of_pair (change_view r) (change_view s))
    (Decides-and (r.place == s.place && same_row r.from s.from) (same_row r.to s.to) (left_decides r s)
    (given_decides r.to s.to))

-- changes that are put together are the same
together_same : (a b : Item) → same_item Row a b ≡ true → change_view a.row.now ≡ change_view b.row.now
together_same a b is = (change_decides a.row.now b.row.now).0 is

-- the changes of a class by binaries
flattened : (bs : List Class) → flat_map (λ class. class) (map class_items bs) ≡ flat_map class_items bs
flattened [] = refl
flattened (b ∷ bs) = ap (λ rest. class_items b ++ rest) (flattened bs)

joined_one : (class : List Item) (group : Group) → IsGroup class group → IsPermutation class (group_items group)
joined_one class group is =
    subst (IsPermutation class) (flattened group.binaries.items) (whole_classes Binary is.binaries).kept

-- joined lists of classes that are groups
joined_groups : (classes : List (List Item)) (groups : List Group) → AllZip IsGroup classes groups
    → IsPermutation (flat_map (λ class. class) classes) (flat_map group_items groups)
joined_groups [] [] all = IsPermutation-refl []
joined_groups [] (g ∷ gs) all = absurd all
joined_groups (c ∷ cs) [] all = absurd all
joined_groups (c ∷ cs) (g ∷ gs) all =
    IsPermutation-append c (group_items g) (flat_map (λ class. class) cs) (flat_map group_items gs)
    (joined_one c g all.0) (joined_groups cs gs all.1)

-- the changes of each group are the same
each_same : (classes : List (List Item)) (groups : List Group) → AllByRecursion (IsUniform Row) classes
    → AllZip IsGroup classes groups → AllByRecursion IsOneChange groups
each_same [] [] uniform all = tt
each_same [] (g ∷ gs) uniform all = absurd all
each_same (c ∷ cs) [] uniform all = absurd all
each_same (c ∷ cs) (g ∷ gs) uniform all =
    let one = uniform.0 in
    let like : All (λ item. change_view one.head.row.now ≡ change_view item.row.now) c =
    All-weaker (λ item. same_item Row one.head item ≡ true)
    (λ item. change_view one.head.row.now ≡ change_view item.row.now) (λ item is. together_same one.head item is) c
    (All-from_recursion (λ item. same_item Row one.head item ≡ true) c one.together) in
    let headed : change_view one.head.row.now ≡ change_view g.head.row.now =
    All-contains (λ item. change_view one.head.row.now ≡ change_view item.row.now) c g.head like all.0.head in (
      record {
        same = All-permutation (λ item. change_view item.row.now ≡ change_view g.head.row.now) c (group_items g)
            (joined_one c g all.0)
            (All-weaker (λ item. change_view one.head.row.now ≡ change_view item.row.now)
            (λ item. change_view item.row.now ≡ change_view g.head.row.now) (λ item is. sym is ∙ headed) c like);
      },
      each_same cs gs uniform.1 all.1,
    )

pub whole_groups : (tests : List TestChanges) (groups : List Group) → AreGroups tests groups
    → AreWholeGroups tests groups
whole_groups tests groups are =
    let whole = whole_classes Row are.are_classes in record {
      kept = subst (λ xs. IsPermutation xs (map item_view (flat_map group_items groups))) are.all
          (IsPermutation-map item_view are.items (flat_map group_items groups)
          (IsPermutation-trans are.items (flat_map (λ class. class) are.classes) (flat_map group_items groups) whole.kept
          (joined_groups are.classes groups are.each)));
      same = each_same are.classes groups whole.uniform are.each;
    }
