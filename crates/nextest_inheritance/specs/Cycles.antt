-- Cycles of parents.
use Rattle.std.specs.Prelude.{◌≡◌, ◌≢◌, ◌&&◌, ℕ, zero, suc, List, [], ◌∷◌, length, Bool, true, false, not, Option, None, Some, option_map, unwrap_or, if◌then◌else◌, Contains}
use Rattle.std.specs.Cmp.Lexicographic.{slice_cmp}
use Rattle.std.specs.List.{AllByRecursion, IsDistinct, before_first, filter_map, list_all}
use Rattle.std.specs.List.Sorted.{IsStrictlySortedBy}
use Rattle.std.specs.Ordering.{nat_cmp}
use Rattle.std.specs.Set.{is_member}
use Rattle.std.specs.Str.{bytes_eq}
use Rattle.nextest_inheritance.specs.Names.{Name, is_base, precedes, IsIn}
use Rattle.nextest_inheritance.specs.Parents.{WrittenParents, Parents, parents_in}

-- the first of these names, or the one that comes after them
abbrev pub first_or : (after : Name) → List Name → Name
first_or after [] = after
first_or after (name ∷ names) = name

-- Names lead to a last one: each has the next one as its parent, and the last of them has that one.
abbrev pub LeadTo : Parents → (last : Name) → List Name → Type 0
LeadTo parents last [] = Unit {0}
LeadTo parents last (name ∷ names) =
    (parents name ≡ Some (first_or last names)) × LeadTo parents last names

-- A cycle, written from its least name: several names, none twice and none of a base profile, each
-- the parent of the one before and the first the parent of the last.
pub record IsCycleFrom (parents : Parents) (least : Name) (others : List Name) : Type 0 where
  pub several : others ≢ []
  pub distinct : IsDistinct bytes_eq (least ∷ others)
  pub plain : AllByRecursion (λ name. is_base name ≡ false) (least ∷ others)
  pub around : LeadTo parents least (least ∷ others)
  pub lowest : AllByRecursion (λ name. precedes least name ≡ true) others

-- A cycle is one that is written from its first name.
abbrev pub IsCycle : Parents → List Name → Type 0
IsCycle parents [] = ⊥
IsCycle parents (name ∷ names) = IsCycleFrom parents name names

-- The cycles of parents: each of these is one, each one is among these, and they ascend by their
-- bytes, so that each is there once.
pub record AreCycles (parents : Parents) (cycles : List (List Name)) : Type 0 where
  pub sound : AllByRecursion (IsCycle parents) cycles
  pub complete : (cycle : List Name) → IsCycle parents cycle → Contains cycles cycle
  pub order : IsStrictlySortedBy (slice_cmp (slice_cmp nat_cmp)) cycles

-- Two of these cycles that share a name are one.
abbrev pub ShareNoName : List (List Name) → Type 0
ShareNoName cycles = (one other : List Name) → Contains cycles one → Contains cycles other
    → (name : Name) → IsIn one name → IsIn other name → other ≡ one

-- Following parents from a name leads into a cycle: some names lead to one in it, and the first of
-- them is that name.
pub record LeadsInto (parents : Parents) (name : Name) (cycle : List Name) : Type 0 where
  pub entry : Name
  pub way : List Name
  pub from : first_or entry way ≡ name
  pub leads : LeadTo parents entry way
  pub within : IsIn cycle entry

-- Following parents from a name leads into one of these cycles.
pub record LeadsIntoOne (parents : Parents) (cycles : List (List Name)) (name : Name)
    : Type 0 where
  pub cycle : List Name
  pub is_one : Contains cycles cycle
  pub leads : LeadsInto parents name cycle

-- the ancestors of a name, the nearest first, so many at most
abbrev pub ancestors : Parents → ℕ → Name → List Name
ancestors parents zero name = []
ancestors parents (suc n) name =
    unwrap_or (option_map (λ parent. parent ∷ ancestors parents n parent) (parents name)) []

-- the names form a cycle that is written from its least name
abbrev pub is_cycle : Name → List Name → Bool
is_cycle least [] = false
is_cycle least (other ∷ others) =
    list_all (λ name. not (is_base name)) (least ∷ other ∷ others)
    && list_all (precedes least) (other ∷ others)

-- the cycle that is written from a name, if there is one: its ancestors before it comes again
abbrev pub cycle_from : Parents → ℕ → Name → Option (List Name)
cycle_from parents count name =
    let all = ancestors parents count name in
    let others = before_first (bytes_eq name) all in
    if is_member bytes_eq all name && is_cycle name others then Some (name ∷ others) else None

-- all cycles of profiles, by their least names
abbrev pub cycles_in : WrittenParents → List (List Name)
cycles_in written =
    filter_map (λ p. cycle_from (parents_in written) (length written) p.0) written
