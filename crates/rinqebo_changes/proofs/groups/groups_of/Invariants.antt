use Rattle.std.proofs.Common.{map, take}
use Rattle.std.specs.List.{AllZip}
use Rattle.rinqebo_changes.specs.Classes.{class_items}
use Rattle.rinqebo_changes.specs.Groups.{IsGroup}
use Rattle.rinqebo_changes.proofs.groups.groups_of.Given as goal

abbrev pub invariant-loop-class : goal.invariant-loop-class
invariant-loop-class l = AllZip IsGroup (map class_items (take l.class-index l.class-items)) l.groups.items
