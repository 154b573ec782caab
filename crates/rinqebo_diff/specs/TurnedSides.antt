-- What a diff and the one of its swapped sides have in common.
use Rattle.std.specs.Prelude.{◌≡◌, ℕ, List, Contains, filter, option_map, string_bytes}
use Rattle.std.specs.List.{AllZip}
use Rattle.rinqebo_changes.specs.Keyed.{is_of}
use Rattle.rinqebo_changes.specs.SourceViews.{source_view}
use Rattle.rinqebo_changes.specs.ValueViews.{value_view}
use Rattle.rinqebo_changes.specs.declared.change.RowChange.{RowChange}
use Rattle.rinqebo_changes.specs.declared.change.SideRow.{SideRow}
use Rattle.rinqebo_changes.specs.declared.change.TestChanges.{TestChanges}
use Rattle.rinqebo_changes.specs.declared.diff.Diff.{Diff}
use Rattle.rinqebo_report.specs.declared.origin.Source.{Source}
use Rattle.rinqebo_report.specs.declared.report.TestId.{TestId}
use Rattle.rinqebo_diff.specs.declared.request.DiffRequest.{DiffRequest}

-- a request with its two sides swapped
abbrev pub swapped_request : DiffRequest → DiffRequest
swapped_request request = record request { from = request.to; to = request.from }

-- Two rows say the same: of one key the same value, and a list decides both or neither.
pub record SaySame (one other : SideRow) : Type 0 where
  pub key : string_bytes one.row.key ≡ string_bytes other.row.key
  pub value : option_map value_view one.row.value ≡ option_map value_view other.row.value
  pub ignored : one.is_ignored ≡ other.is_ignored

-- Two rows say the same, and their values come from the same, by the sources of their sides.
pub record ComeAlike (sources others : List Source) (one other : SideRow) : Type 0 where
  pub said : SaySame one other
  pub source : source_view sources one ≡ source_view others other

-- A change is another one, from the other side: what one has on its left side, the other one has on
-- its right side, and the other way round.
pub record IsTurned (change other : RowChange) : Type 0 where
  pub from : SaySame change.from other.to
  pub to : SaySame change.to other.from

-- A change of a setting of a test is another one, from the other side: that of the same setting,
-- with rows that are alike.
pub record IsTurnedAt (AreLefts AreRights : SideRow → SideRow → Type 0) (change other : RowChange)
    : Type 0 where
  pub place : change.place ≡ other.place
  pub from : AreLefts change.from other.to
  pub to : AreRights change.to other.from

-- Two names are of the same test.
pub record NameSame (one other : TestId) : Type 0 where
  pub binary : string_bytes one.binary ≡ string_bytes other.binary
  pub name : string_bytes one.name ≡ string_bytes other.name

-- What is removed from one side to the other is added the other way, and what is added is removed.
pub record AreTurnedAlone (diff other : Diff) : Type 0 where
  pub removed : AllZip NameSame diff.removed.items other.added.items
  pub added : AllZip NameSame diff.added.items other.removed.items

-- What changes for a test is what changes for it the other way: the same settings, in their order,
-- each from the other side.
pub record IsTurnedTest (AreLefts AreRights : SideRow → SideRow → Type 0)
    (changed other : TestChanges) : Type 0 where
  pub test : NameSame changed.test other.test
  pub rows : AllZip (IsTurnedAt AreLefts AreRights) changed.rows.items other.rows.items

-- Among what changes for tests is what changes for one of them the other way.
pub record HasTurned (AreLefts AreRights : SideRow → SideRow → Type 0) (others : List TestChanges)
    (changed : TestChanges) : Type 0 where
  pub other : TestChanges
  pub there : Contains others other
  pub turned : IsTurnedTest AreLefts AreRights changed other

-- What changes for tests is what changes for them the other way. The order is that of the list on
-- the right side, so it may be another one.
pub record AreTurnedTests (changed others : List TestChanges) : Type 0 where
  pub into : (test : TestChanges) → Contains changed test
      → HasTurned SaySame SaySame others test
  pub back : (test : TestChanges) → Contains others test
      → HasTurned SaySame SaySame changed test

-- what changes for a test in a diff changes for it the other way in another diff, and comes from
-- the same: from the sources of one left side and of the other right side, and the other way round
abbrev pub HasAlike : Diff → Diff → TestChanges → Type 0
HasAlike diff other =
    HasTurned (ComeAlike diff.from.sources.items other.to.sources.items)
    (ComeAlike diff.to.sources.items other.from.sources.items) other.changed.items

-- What changes for tests in one of two diffs changes for them the other way in the other one, and
-- comes from the same.
pub record AreTurnedAlike (diff other : Diff) : Type 0 where
  pub into : (test : TestChanges) → Contains diff.changed.items test → HasAlike diff other test
  pub back : (test : TestChanges) → Contains other.changed.items test → HasAlike other diff test

-- the changes of rows of a key, in their order
abbrev pub changes_of : List ℕ → List RowChange → List RowChange
changes_of name changes = filter (λ c. is_of name c.from.row) changes

-- What changes for the whole run is what changes the other way: of each key as many rows change, in
-- the same order, each from the other side. Those of different keys may be in another order, since
-- rows that the right side has alone are the last ones.
pub record AreTurnedRuns (changes others : List RowChange) : Type 0 where
  pub each : (name : List ℕ) → AllZip IsTurned (changes_of name changes) (changes_of name others)
