use Rattle.rinqebo_changes.proofs.ClassLists.{IsFirstOf}
use Rattle.rinqebo_changes.proofs.classes.first_of.Given as goal

-- the first one is that of the changes so far
abbrev pub invariant-loop-item : goal.invariant-loop-item
invariant-loop-item l = IsFirstOf l.items l.item-index l.first
