-- The page of a diff.
use Rattle.std.specs.Prelude.{◌≡◌, ℕ, ◌==◌, nat_lt, ◌&&◌, ◌||◌, Bool, false, List, [], ◌∷◌, ◌++◌, Option, None, Some, length, slice_get, flat_map, not, codes, bytes_eq, string_bytes, if◌then◌else◌}
use Rattle.rinqebo_report.specs.declared.layout.Paper.{Paper}
use Rattle.rinqebo_report.specs.declared.origin.Origin.{Origin}
use Rattle.rinqebo_report.specs.declared.piece.Style.TheVariants as styles
use Rattle.rinqebo_report.specs.declared.report.TestId.{TestId}
use Rattle.rinqebo_report.specs.declared.value.Value.{Value}
use Rattle.rinqebo_report.specs.Joined.{joined}
use Rattle.rinqebo_report.specs.Layout.{remark_line}
use Rattle.rinqebo_report.specs.OriginText.{origin_text}
use Rattle.rinqebo_report.specs.Pages.{plain}
use Rattle.rinqebo_report.specs.Pieces.{Run, styled, repeated, numbered, ending, page_text}
use Rattle.rinqebo_report.specs.TomlText.{value_text}
use Rattle.rinqebo_changes.specs.declared.change.RowChange.{RowChange}
use Rattle.rinqebo_changes.specs.declared.change.SideRow.{SideRow}
use Rattle.rinqebo_changes.specs.declared.classes.Class.{Class}
use Rattle.rinqebo_changes.specs.declared.classes.Item.{Item}
use Rattle.rinqebo_changes.specs.declared.diff.BinaryTests.{BinaryTests}
use Rattle.rinqebo_changes.specs.declared.diff.Diff.{Diff}
use Rattle.rinqebo_changes.specs.declared.diff.Side.{Side}
use Rattle.rinqebo_changes.specs.declared.groups.Group.{Group}
use Rattle.rinqebo_changes.specs.Arrows.{arrow_runs}
use Rattle.rinqebo_changes.specs.Groups.{AreGroups}
use Rattle.rinqebo_changes.specs.Heads.{head_runs}

-- a value, or that there is none
abbrev pub setting_text : Option Value → List ℕ
setting_text None = codes "none"
setting_text (Some value) = value_text value

-- origins of a side, with commas between them, or that none is known
abbrev pub origins_text : Side → List Origin → List ℕ
origins_text side origins =
    if length origins == 0 then codes "none"
    else joined (codes ", ") (origin_text (string_bytes side.root) side.sources.items) origins

-- where the value of a side comes from: its list, or origins
abbrev pub source_text : Side → SideRow → List ℕ
source_text side given =
    if given.is_ignored then codes "ignored in LIST"
    else origins_text side given.row.origins.items

-- whether it is known where the value of a side comes from
abbrev pub has_source : SideRow → Bool
has_source given = given.is_ignored || not (length given.row.origins.items == 0)

-- the key of the right side, where it is another one
abbrev pub other_key : RowChange → List ℕ
other_key row =
    if bytes_eq (string_bytes row.from.row.key) (string_bytes row.to.row.key) then []
    else string_bytes row.to.row.key ++ codes ": "

-- a setting, and its two values
abbrev pub value_runs : ℕ → List ℕ → List ℕ → List ℕ → List ℕ → List Run
value_runs columns key from other to =
    arrow_runs columns 4 styles.Plain
    (styled styles.Key key ∷ plain (codes ": ") ∷ plain from ∷ [])
    (styled styles.Key other ∷ plain to ∷ [])

-- a setting that changes, and its two values
abbrev pub heading_runs : ℕ → RowChange → List Run
heading_runs columns row =
    value_runs columns (string_bytes row.from.row.key) (setting_text row.from.row.value)
    (other_key row) (setting_text row.to.row.value)

-- two origins
abbrev pub two_site_runs : ℕ → List ℕ → List ℕ → List Run
two_site_runs columns from to =
    arrow_runs columns 8 styles.Remark (repeated 32 4 ∷ styled styles.Remark from ∷ [])
    (styled styles.Remark to ∷ [])

-- where the two values come from, if that is known of at least one
abbrev pub site_runs : ℕ → Diff → RowChange → List Run
site_runs columns diff row =
    if has_source row.from || has_source row.to
    then two_site_runs columns (source_text diff.from row.from) (source_text diff.to row.to)
    else []

-- a change
abbrev pub change_runs : ℕ → Diff → RowChange → List Run
change_runs columns diff row = heading_runs columns row ++ site_runs columns diff row

-- the names of a test
abbrev pub names_runs : List ℕ → List ℕ → List Run
names_runs binary name =
    plain (codes "    ") ∷ plain binary ∷ plain (codes " ") ∷ plain name ∷ ending ∷ []

-- a test
abbrev pub test_runs : TestId → List Run
test_runs test = names_runs (string_bytes test.binary) (string_bytes test.name)

-- that all tests of a binary change
abbrev pub whole_runs : List ℕ → ℕ → List Run
whole_runs binary n =
    plain (codes "    ") ∷ plain binary ∷ plain (codes " *  (") ∷ numbered n
    ∷ plain (codes " tests)") ∷ ending ∷ []

-- how many tests a binary has: none if it is not one of these binaries
abbrev pub total_of : List BinaryTests → List ℕ → ℕ
total_of [] binary = 0
total_of (b ∷ bs) binary =
    if bytes_eq (string_bytes b.binary) binary then b.tests else total_of bs binary

-- whether a binary has so many tests, and has several: one of its changes is given, the first
abbrev pub whole_at : List BinaryTests → ℕ → Option Item → Bool
whole_at binaries n None = false
whole_at binaries n (Some item) =
    nat_lt 1 n && (n == total_of binaries (string_bytes item.test.now.binary))

-- whether changes of a binary's tests are those of all its tests, and it has several
abbrev pub is_whole : List BinaryTests → List Item → Bool
is_whole binaries items = whole_at binaries (length items) (slice_get items 0)

-- the test of a change
abbrev pub item_runs : Item → List Run
item_runs item = test_runs item.test.now

-- the changes of a binary's tests, of which one is the first: one line if all its tests change,
-- unless each is to be listed
abbrev pub binary_runs_at : List BinaryTests → Bool → List Item → Option Item → List Run
binary_runs_at binaries lists_all items None = flat_map item_runs items
binary_runs_at binaries lists_all items (Some item) =
    if not lists_all && is_whole binaries items
    then whole_runs (string_bytes item.test.now.binary) (length items)
    else flat_map item_runs items

-- the changes of a binary's tests
abbrev pub binary_runs : List BinaryTests → Bool → List Item → List Run
binary_runs binaries lists_all items =
    binary_runs_at binaries lists_all items (slice_get items 0)

-- the changes of the tests of binaries
abbrev pub binaries_runs : List BinaryTests → Bool → List Class → List Run
binaries_runs binaries lists_all classes =
    flat_map (λ class. binary_runs binaries lists_all class.items.items) classes

-- a group: what changes, and its tests
abbrev pub group_runs : ℕ → Diff → Bool → Group → List Run
group_runs columns diff lists_all group =
    change_runs columns diff group.head.row.now
    ++ binaries_runs diff.binaries.items lists_all group.binaries.items

-- the tests of one side alone, if there are some
abbrev pub listed_runs : List ℕ → List TestId → List Run
listed_runs word tests =
    if length tests == 0 then [] else plain word ∷ ending ∷ flat_map test_runs tests

-- what changes for the whole run, if something does
abbrev pub run_runs : ℕ → Diff → List Run
run_runs columns diff =
    if length diff.run.items == 0 then []
    else remark_line (codes "# run") ++ flat_map (change_runs columns diff) diff.run.items

-- how many of the compared tests change
abbrev pub count_runs : ℕ → ℕ → List Run
count_runs changed compared =
    numbered changed ∷ plain (codes " of ") ∷ numbered compared
    ∷ plain (codes " tests change") ∷ ending ∷ []

-- the page of a diff, whose changes are in groups
abbrev pub diff_runs : ℕ → Diff → Bool → List Group → List Run
diff_runs columns diff lists_all groups =
    head_runs columns diff ++ (flat_map (group_runs columns diff lists_all) groups
    ++ (listed_runs (codes "removed:") diff.removed.items
    ++ (listed_runs (codes "added:") diff.added.items
    ++ (run_runs columns diff ++ count_runs (length diff.changed.items) diff.compared))))

-- A text is the page of a diff: its changes are in groups, and it has what they are.
pub record IsDiffText (diff : Diff) (lists_all : Bool) (paper : Paper) (text : List ℕ) : Type 0
  where
    pub groups : List Group
    pub are_groups : AreGroups diff.changed.items groups
    pub is_text : text ≡ page_text paper.colour (diff_runs paper.columns diff lists_all groups)
