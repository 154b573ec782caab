-- What is found of the parents that profiles write, before it is compared with the list of faults.
use Rattle.std.specs.Prelude.{◌≡◌, ◌++◌, List, Bool}
use Rattle.std.specs.Cmp.Lexicographic.{slice_cmp}
use Rattle.std.specs.List.Sorted.{IsStrictlySortedBy}
use Rattle.std.specs.Map.{keys_of}
use Rattle.std.specs.Ordering.{nat_cmp}
use Rattle.nextest_inheritance.specs.Names.{Name}
use Rattle.nextest_inheritance.specs.Parents.{WrittenParents, parents_in}
use Rattle.nextest_inheritance.specs.Cycles.{AreCycles}
use Rattle.nextest_inheritance.specs.Faults.{ParentFault, is_known, parent_faults, cycle_faults}

-- The faults of profiles, whose names ascend, are each profile's own, and one for all cycles.
pub record AreFaultsOf (lower : Name → Bool) (written : WrittenParents) (faults : List ParentFault)
    : Type 0 where
  pub ordered : IsStrictlySortedBy (slice_cmp nat_cmp) (keys_of written)
  pub cycles : List (List Name)
  pub are_cycles : AreCycles (parents_in written) cycles
  pub is : faults ≡ parent_faults (is_known lower written) written ++ cycle_faults cycles
