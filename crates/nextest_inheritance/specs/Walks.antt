-- Walks along parents, as the search for cycles takes them.
use Rattle.std.specs.Prelude.{◌≡◌, ◌||◌, ◌++◌, ◌∷◌, List, Bool, false, Option, None, Some, drop, if◌then◌else◌}
use Rattle.std.specs.List.{AllByRecursion, IsDistinct, position_or_len}
use Rattle.std.specs.Option.{option_and_then}
use Rattle.std.specs.Set.{is_member}
use Rattle.std.specs.Str.{bytes_eq}
use Rattle.nextest_inheritance.specs.Names.{Name, is_base, precedes}
use Rattle.nextest_inheritance.specs.Parents.{Parents}
use Rattle.nextest_inheritance.specs.Cycles.{first_or, LeadTo}

-- a parent, but for the name itself
abbrev pub other_parent : Name → Name → Option Name
other_parent name parent = if bytes_eq parent name then None else Some parent

-- the parents that count for cycles: a base profile has none, and no profile is its own
abbrev pub cycle_parents : Parents → Parents
cycle_parents parents name =
    if is_base name then None else option_and_then (other_parent name) (parents name)

-- A walk from a name follows parents up to an end, through names none of which comes twice. They
-- are walked afterwards, beside those that were before.
pub record IsWalk (parents : Parents) (start : Name) (old new : Name → Bool) (path : List Name)
    (end : Name) : Type 0 where
  pub starts : first_or end path ≡ start
  pub leads : LeadTo parents end path
  pub distinct : IsDistinct bytes_eq path
  pub walked : (name : Name) → new name ≡ (old name || is_member bytes_eq path name)

-- the part of a path from a name on
abbrev pub path_from_name : Name → List Name → List Name
path_from_name name path = drop (position_or_len (bytes_eq name) path) path

-- A cycle is a ring of names, written from its least name.
pub record IsTurned (ring cycle : List Name) : Type 0 where
  pub front : List Name
  pub least : Name
  pub back : List Name
  pub is_ring : ring ≡ front ++ least ∷ back
  pub is_cycle : cycle ≡ least ∷ back ++ front
  pub lowest : AllByRecursion (λ name. precedes name least ≡ false) ring
