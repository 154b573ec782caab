use Rattle.std.proofs.Common.{List, ◌++◌, length, map}
use Rattle.std.specs.List.{All}
use Rattle.rinqebo_changes.specs.declared.classes.Item.{Item}
use Rattle.rinqebo_changes.specs.Classes.{AreClasses, HasHead, class_items, same_item}
use Rattle.rinqebo_changes.proofs.classes.classes_of.Given as goal

-- classes of what is left are, behind the classes so far, classes of all
abbrev pub invariant-loop-head : goal.invariant-loop-head
invariant-loop-head l = record {
  all : (cs : List (List Item)) → AreClasses (same_item l.rule) l.rest.items cs
      → AreClasses (same_item l.rule) l.fn.items (map class_items l.classes.items ++ cs);
  heads : All HasHead l.classes.items;
}

abbrev pub decreases-loop-head : goal.decreases-loop-head
decreases-loop-head l = length l.rest.items
