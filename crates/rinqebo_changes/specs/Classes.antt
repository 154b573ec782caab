-- Changes that are the same for several tests.
use Rattle.std.specs.Prelude.{◌==◌, ◌<◌, ◌≤◌, ◌&&◌, not, Bool, List, [], ◌∷◌, map, filter, flat_map, take, bytes_eq, string_bytes}
use Rattle.std.specs.List.{All, Contains}
use Rattle.std.specs.Bool.{beq}
use Rattle.std.specs.Option.{option_eq}
use Rattle.rinqebo_report.specs.declared.report.TestId.{TestId}
use Rattle.rinqebo_changes.specs.declared.change.RowChange.{RowChange}
use Rattle.rinqebo_changes.specs.declared.change.SideRow.{SideRow}
use Rattle.rinqebo_changes.specs.declared.change.TestChanges.{TestChanges}
use Rattle.rinqebo_changes.specs.declared.classes.ClassRule.{ClassRule}
use Rattle.rinqebo_changes.specs.declared.classes.ClassRule.TheVariants.{Row, Binary}
use Rattle.rinqebo_changes.specs.declared.classes.Class.{Class}
use Rattle.rinqebo_changes.specs.declared.classes.Item.{Item}
use Rattle.rinqebo_changes.specs.Same.{same_value}
use Rattle.rinqebo_changes.specs.SameOrigin.{same_origins}

-- whether two rows of a side have the same value, which comes from the same
abbrev pub same_row : SideRow → SideRow → Bool
same_row a b =
    (option_eq same_value a.row.value b.row.value && beq a.is_ignored b.is_ignored)
    && same_origins a.row.origins.items b.row.origins.items

-- whether two changes are put together
abbrev pub same_item : ClassRule → Item → Item → Bool
same_item Row a b =
    (a.row.now.place == b.row.now.place && same_row a.row.now.from b.row.now.from)
    && same_row a.row.now.to b.row.now.to
same_item Binary a b =
    bytes_eq (string_bytes a.test.now.binary) (string_bytes b.test.now.binary)

-- a setting of a test that changes
abbrev pub item_view : Item → TestId × RowChange
item_view item = (item.test.now, item.row.now)

-- the settings that change, of all tests, in the order of the tests and of their settings
abbrev pub items_of : List TestChanges → List (TestId × RowChange)
items_of tests = flat_map (λ test. map (λ row. (test.test, row)) test.rows.items) tests

-- the changes of a class
abbrev pub class_items : Class → List Item
class_items class = class.items.items

-- The head of a class is one of its changes.
pub record HasHead (class : Class) : Type 0 where
  pub here : Contains class.items.items class.head

-- One of some changes is the first of those whose setting comes first: the settings of all before
-- it come later.
pub record IsFirstLeast (items : List Item) (head : Item) : Type 0 where
  pub here : Contains items head
  pub least : All (λ item. head.row.now.place ≤ item.row.now.place) items
  pub first : All (λ item. head.row.now.place < item.row.now.place) (take here.0 items)

-- Classes of some items: the first class is of the items that are put together with the first of
-- those whose setting comes first, in their order, and the other classes are those of the others.
pub data AreClasses (same : Item → Item → Bool) : List Item → List (List Item) → Type 0 where
  none : AreClasses same [] []
  more : {items : List Item} {classes : List (List Item)} (head : Item) → IsFirstLeast items head
      → AreClasses same (filter (λ item. not (same head item)) items) classes
      → AreClasses same items (filter (same head) items ∷ classes)
