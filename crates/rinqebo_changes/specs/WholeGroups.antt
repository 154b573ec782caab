-- That groups have all changes, and that those of a group are the same.
use Rattle.std.specs.Prelude.{◌≡◌, ℕ, Bool, List, Option, option_map, map, flat_map}
use Rattle.std.specs.List.{All, AllByRecursion}
use Rattle.std.specs.List.Sorted.{IsPermutation}
use Rattle.rinqebo_changes.specs.declared.change.RowChange.{RowChange}
use Rattle.rinqebo_changes.specs.declared.change.SideRow.{SideRow}
use Rattle.rinqebo_changes.specs.declared.change.TestChanges.{TestChanges}
use Rattle.rinqebo_changes.specs.declared.classes.Item.{Item}
use Rattle.rinqebo_changes.specs.declared.groups.Group.{Group}
use Rattle.rinqebo_changes.specs.Classes.{class_items, item_view, items_of}
use Rattle.rinqebo_changes.specs.OriginViews.{PlainOrigin, origin_view}
use Rattle.rinqebo_changes.specs.ValueViews.{PlainValue, value_view}

-- what a side gives to a setting: its value, whether a list gives the test as ignored, and origins
abbrev pub given_view : SideRow → (Option PlainValue × Bool) × List PlainOrigin
given_view given = (
  (option_map value_view given.row.value, given.is_ignored),
  map origin_view given.row.origins.items,
)

-- a change of a setting: the place of the setting, and what both sides give
abbrev pub change_view : RowChange
    → (ℕ × ((Option PlainValue × Bool) × List PlainOrigin))
    × ((Option PlainValue × Bool) × List PlainOrigin)
change_view row = ((row.place, given_view row.from), given_view row.to)

-- the changes of a group, by binaries
abbrev pub group_items : Group → List Item
group_items group = flat_map class_items group.binaries.items

-- The changes of a group are the same as its head.
pub record IsOneChange (group : Group) : Type 0 where
  pub same : All (λ item. change_view item.row.now ≡ change_view group.head.row.now)
      (group_items group)

-- Groups have the changes of tests and no others, each once, and those of a group are the same.
pub record AreWholeGroups (tests : List TestChanges) (groups : List Group) : Type 0 where
  pub kept : IsPermutation (items_of tests) (map item_view (flat_map group_items groups))
  pub same : AllByRecursion IsOneChange groups
