-- Laws of what changes.
use Rattle.std.specs.Prelude.{◌≡◌, ◌≢◌, ◌⊎◌, ℕ, ◌<◌, Bool, true, List, [], ◌∷◌, Some, map, option_map, flat_map, slice_get}
use Rattle.std.specs.List.{AllByRecursion}
use Rattle.std.specs.List.Sorted.{IsPermutation}
use Rattle.rinqebo_report.specs.declared.origin.Source.{Source}
use Rattle.rinqebo_changes.specs.declared.change.RowChange.{RowChange}
use Rattle.rinqebo_changes.specs.declared.change.SideRow.{SideRow}
use Rattle.rinqebo_changes.specs.declared.classes.ClassRule.{ClassRule}
use Rattle.rinqebo_changes.specs.declared.classes.Item.{Item}
use Rattle.rinqebo_changes.specs.Changes.{changed_rows, is_change}
use Rattle.rinqebo_changes.specs.Classes.{same_item}
use Rattle.rinqebo_changes.specs.SourceViews.{source_view}
use Rattle.rinqebo_changes.specs.ValueViews.{value_view}

-- a setting changes between two rows, by the sources of their sides: its value does, or, if that
-- counts, what the value comes from
abbrev pub Changes : List Source → List Source → Bool → SideRow → SideRow → Type 0
Changes from to with_origins left right =
    (option_map value_view left.row.value ≢ option_map value_view right.row.value)
    ⊎ ((with_origins ≡ true) × (source_view from left ≢ source_view to right))

-- A change is one of some changes.
pub record IsOneOf (changes : List RowChange) (change : RowChange) : Type 0 where
  pub index : ℕ
  pub here : slice_get changes index ≡ Some change

-- A change is of the two rows at its place, and something changes between them.
pub record IsChangeAt (test : SideRow → SideRow → Bool) (from to : List SideRow)
    (change : RowChange) : Type 0 where
  pub left_row : slice_get from change.place ≡ Some change.from
  pub right_row : slice_get to change.place ≡ Some change.to
  pub changes : test change.from change.to ≡ true

-- numbers rise
abbrev pub AreRising : List ℕ → Type 0
AreRising [] = Unit {0}
AreRising (n ∷ ns) = AllByRecursion (λ m. n < m) ns × AreRising ns

-- The rows that change are exactly those that differ, each once: each is a change at its place,
-- each change at a place is one of them, and their places rise.
pub record AreExactly (test : SideRow → SideRow → Bool) (from to : List SideRow) : Type 0
  where
    pub sound : (c : RowChange) → IsOneOf (changed_rows test from to) c → IsChangeAt test from to c
    pub whole : (c : RowChange) → IsChangeAt test from to c → IsOneOf (changed_rows test from to) c
    pub once : AreRising (map (λ c. c.place) (changed_rows test from to))

-- a change, from the other side
abbrev pub swapped : RowChange → RowChange
swapped c = record { place = c.place; from = c.to; to = c.from }

-- Nothing changes between equal rows, and between swapped sides the same rows change, swapped.
pub record AreFair (from to : List Source) (with_origins : Bool) : Type 0 where
  pub equal : (rows : List SideRow)
      → changed_rows (is_change from from with_origins) rows rows ≡ []
  pub swap : (left right : List SideRow)
      → changed_rows (is_change to from with_origins) right left
      ≡ map swapped (changed_rows (is_change from to with_origins) left right)

-- A class has a change with which all its changes are put together.
pub record IsUniform (rule : ClassRule) (class : List Item) : Type 0 where
  pub head : Item
  pub together : AllByRecursion (λ item. same_item rule head item ≡ true) class

-- Classes have all changes and no others, each once, and those of a class are put together.
pub record AreWhole (rule : ClassRule) (items : List Item) (classes : List (List Item)) : Type 0
  where
    pub kept : IsPermutation items (flat_map (λ class. class) classes)
    pub uniform : AllByRecursion (IsUniform rule) classes
