-- What changes for tests, from the other side.
use Rattle.std.specs.Prelude.{◌≡◌, Bool, List, map}
use Rattle.std.specs.List.{AllZip}
use Rattle.filter_inputs.specs.Lists.Lists.{ListTest}
use Rattle.rinqebo_changes.specs.Laws.{swapped}
use Rattle.rinqebo_changes.specs.declared.change.SideRow.{SideRow}
use Rattle.rinqebo_changes.specs.declared.change.TestChanges.{TestChanges}
use Rattle.rinqebo_report.specs.declared.report.TestRows.{TestRows}
use Rattle.rinqebo_changes.specs.Sides.Matched.{TestPair}
use Rattle.rinqebo_diff.specs.Compared.{AreCompared}

-- a pair, from the other side
abbrev pub swapped_pair : TestPair → TestPair
swapped_pair pair = record { from = pair.to; to = pair.from }

-- The same settings of a test change, and each has the two sides swapped.
pub record IsSwapped (changed other : TestChanges) : Type 0 where
  pub rows : other.rows.items ≡ map swapped changed.rows.items

-- What changes for tests from the right side to the left one is what changes the other way, with
-- the sides swapped.
pub record HaveSwapped (left right : ListTest → TestRows → Type 0)
    (changes : SideRow → SideRow → Bool) (with_runs : Bool) (pairs : List TestPair)
    (changed : List TestChanges) : Type 0 where
  pub others : List TestChanges
  pub are : AreCompared right left changes with_runs (map swapped_pair pairs) others
  pub each : AllZip IsSwapped changed others
