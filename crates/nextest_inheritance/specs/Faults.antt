-- What is wrong with the parents that profiles write.
use Rattle.std.specs.Prelude.{◌≡◌, ◌≢◌, ◌++◌, ◌||◌, ◌↔◌, List, [], ◌∷◌, Bool, true, false, Option, None, Some, option_and_then, if◌then◌else◌}
use Rattle.std.specs.List.{AllByRecursion, filter_map, flat_map, list_any}
use Rattle.std.specs.Map.{keys_of}
use Rattle.std.specs.Set.{is_member}
use Rattle.std.specs.Str.{bytes_eq}
use Rattle.nextest_inheritance.specs.Names.{Name, is_base, default_first}
use Rattle.nextest_inheritance.specs.Parents.{WrittenParents, Parents, IsChain}
use Rattle.nextest_inheritance.specs.Cycles.{IsCycle, AreCycles, ShareNoName, LeadsIntoOne, cycles_in}

-- what is wrong with parents
pub data ParentFault : Type 0 where
  base_with_parent : (profile : Name) → ParentFault
  own_parent : (profile : Name) → ParentFault
  unknown_parent : (profile parent : Name) → ParentFault
  cyclic : (cycles : List (List Name)) → ParentFault

-- a name is known: one of these profiles has it, or one of a lower file
abbrev pub is_known : (lower : Name → Bool) → WrittenParents → Name → Bool
is_known lower written name = is_member bytes_eq (keys_of written) name || lower name

-- Parents are sound: no base profile writes one, no profile names itself, each parent is known, and
-- there is no cycle.
pub record AreSoundParents (parents : Parents) (known : Name → Bool) : Type 0 where
  pub bases : (name : Name) → is_base name ≡ true → parents name ≡ None
  pub others : (name : Name) → parents name ≢ Some name
  pub existence : (name parent : Name) → parents name ≡ Some parent → known parent ≡ true
  pub acyclic : (cycle : List Name) → ¬ IsCycle parents cycle

-- what is wrong with the parent of one profile: the profile is a base one, or its own parent, or
-- the parent is not known
abbrev pub parent_fault : (known : Name → Bool) → (name parent : Name) → Option ParentFault
parent_fault known name parent =
    if is_base name then Some (base_with_parent name)
    else if bytes_eq name parent then Some (own_parent name)
    else if known parent then None
    else Some (unknown_parent name parent)

-- what is wrong with each profile's own parent, `default` first, the others by name
abbrev pub parent_faults : (known : Name → Bool) → WrittenParents → List ParentFault
parent_faults known written =
    filter_map (λ p. option_and_then (parent_fault known p.0) p.1) (default_first written)

-- one fault for all cycles
abbrev pub cycle_faults : List (List Name) → List ParentFault
cycle_faults [] = []
cycle_faults (cycle ∷ cycles) = cyclic (cycle ∷ cycles) ∷ []

-- all that is wrong with the parents that profiles write beside the names of lower files: each
-- profile's own, and then the cycles
abbrev pub inheritance_faults : (lower : Name → Bool) → WrittenParents → List ParentFault
inheritance_faults lower written =
    parent_faults (is_known lower written) written ++ cycle_faults (cycles_in written)

-- the fault names cycles
abbrev pub is_cyclic : ParentFault → Bool
is_cyclic (base_with_parent profile) = false
is_cyclic (own_parent profile) = false
is_cyclic (unknown_parent profile parent) = false
is_cyclic (cyclic cycles) = true

-- the cycles that a fault names
abbrev pub cycles_of : ParentFault → List (List Name)
cycles_of (base_with_parent profile) = []
cycles_of (own_parent profile) = []
cycles_of (unknown_parent profile parent) = []
cycles_of (cyclic cycles) = cycles

-- Faults name exactly the cycles of parents: each once, in order, no two with a name in common, and
-- a fault that names cycles is among them exactly if there is one.
pub record NameCycles (parents : Parents) (faults : List ParentFault) : Type 0 where
  pub exact : AreCycles parents (flat_map cycles_of faults)
  pub apart : ShareNoName (flat_map cycles_of faults)
  pub needed : (list_any is_cyclic faults ≡ true) ↔ ((cycle : List Name) × IsCycle parents cycle)

-- the fault is not that of a base profile, nor that of a profile that names itself
abbrev pub IsOfOthers : ParentFault → Type 0
IsOfOthers (base_with_parent profile) = ⊥
IsOfOthers (own_parent profile) = ⊥
IsOfOthers (unknown_parent profile parent) = Unit {0}
IsOfOthers (cyclic cycles) = Unit {0}

-- Where no base profile writes a parent and no profile names itself, a name has no chain exactly if
-- following parents from it leads into one of the cycles that faults name.
abbrev pub TellStranded : Parents → List ParentFault → Type 0
TellStranded parents faults = AllByRecursion IsOfOthers faults → (name : Name)
    → ((chain : List Name) → ¬ IsChain parents name chain)
    ↔ LeadsIntoOne parents (flat_map cycles_of faults) name
