-- The groups of a page.
use Rattle.std.specs.Prelude.{◌≡◌, List, length, map}
use Rattle.std.specs.List.{AllZip, Contains}
use Rattle.rinqebo_changes.specs.declared.change.TestChanges.{TestChanges}
use Rattle.rinqebo_changes.specs.declared.classes.ClassRule.TheVariants.{Row, Binary}
use Rattle.rinqebo_changes.specs.declared.classes.Item.{Item}
use Rattle.rinqebo_changes.specs.declared.groups.Group.{Group}
use Rattle.rinqebo_changes.specs.Classes.{item_view, items_of, class_items, same_item, AreClasses}

-- A group is of the changes of a class: its head is one of them, and by binaries it has them all.
pub record IsGroup (class : List Item) (group : Group) : Type 0 where
  pub head : Contains class group.head
  pub count : group.count ≡ length class
  pub binaries : AreClasses (same_item Binary) class (map class_items group.binaries.items)

-- Groups are those of the changes of tests: each is of a class of changes of the same setting with
-- the same values and origins.
pub record AreGroups (tests : List TestChanges) (groups : List Group) : Type 0 where
  pub items : List Item
  pub all : map item_view items ≡ items_of tests
  pub classes : List (List Item)
  pub are_classes : AreClasses (same_item Row) items classes
  pub each : AllZip IsGroup classes groups
