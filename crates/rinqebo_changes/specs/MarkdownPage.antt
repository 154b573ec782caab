-- A diff as a table for a comment.
use Rattle.std.specs.Prelude.{◌≡◌, ℕ, ◌==◌, ◌&&◌, ◌||◌, not, Bool, List, [], ◌∷◌, ◌++◌, Option, None, Some, length, slice_get, flat_map, codes, decimal, encode_utf8, string_bytes, if◌then◌else◌}
use Rattle.std.specs.Char.{is_control}
use Rattle.std.specs.Str.{chars}
use Rattle.rinqebo_report.specs.declared.report.TestId.{TestId}
use Rattle.rinqebo_changes.specs.declared.change.RowChange.{RowChange}
use Rattle.rinqebo_changes.specs.declared.change.SideRow.{SideRow}
use Rattle.rinqebo_changes.specs.declared.classes.Item.{Item}
use Rattle.rinqebo_changes.specs.declared.diff.BinaryTests.{BinaryTests}
use Rattle.rinqebo_changes.specs.declared.diff.Diff.{Diff}
use Rattle.rinqebo_changes.specs.declared.diff.Side.{Side}
use Rattle.rinqebo_changes.specs.declared.groups.Group.{Group}
use Rattle.rinqebo_changes.specs.Groups.{AreGroups}
use Rattle.rinqebo_changes.specs.Pages.{has_source, is_whole, setting_text, source_text}

-- whether a character has a meaning in a table, or marks up a text
abbrev pub is_mark : ℕ → Bool
is_mark c =
    c == 92 || c == 96 || c == 42 || c == 95 || c == 91 || c == 93 || c == 60 || c == 62
    || c == 124 || c == 35 || c == 126

-- a character that is shown as it is: behind a backslash where it has a meaning, and a space for a
-- control character
abbrev pub marked_char : ℕ → List ℕ
marked_char c =
    if is_control c then 32 ∷ []
    else (if is_mark c then 92 ∷ encode_utf8 c else encode_utf8 c)

-- a text that is shown as it is
abbrev pub marked_text : List ℕ → List ℕ
marked_text text = flat_map marked_char (chars text)

-- where the value of a side comes from, on a line of its own, if that is known
abbrev pub source_cell : Side → SideRow → List ℕ
source_cell side given =
    if has_source given then codes "<br>" ++ marked_text (source_text side given) else []

-- what a side gives: its value, and where that comes from
abbrev pub given_cell : Side → SideRow → List ℕ
given_cell side given =
    marked_text (setting_text given.row.value) ++ source_cell side given

-- a test
abbrev pub test_cell : TestId → List ℕ
test_cell test =
    marked_text (string_bytes test.binary)
    ++ (codes " " ++ (marked_text (string_bytes test.name) ++ codes "<br>"))

-- the test of a change
abbrev pub item_cell : Item → List ℕ
item_cell item = test_cell item.test.now

-- that all tests of a binary change
abbrev pub whole_cell : List ℕ → ℕ → List ℕ
whole_cell binary n =
    marked_text binary ++ (codes " \\* (" ++ (decimal n ++ codes " tests)<br>"))

-- the changes of a binary's tests, of which one is the first: once if all its tests change, unless
-- each is to be listed
abbrev pub binary_cell_at : List BinaryTests → Bool → List Item → Option Item → List ℕ
binary_cell_at binaries lists_all items None = flat_map item_cell items
binary_cell_at binaries lists_all items (Some item) =
    if not lists_all && is_whole binaries items
    then whole_cell (string_bytes item.test.now.binary) (length items)
    else flat_map item_cell items

-- the changes of a binary's tests
abbrev pub binary_cell : List BinaryTests → Bool → List Item → List ℕ
binary_cell binaries lists_all items =
    binary_cell_at binaries lists_all items (slice_get items 0)

-- the first three cells of a change
abbrev pub cells_text : Diff → RowChange → List ℕ
cells_text diff row =
    codes "| " ++ (marked_text (string_bytes row.to.row.key) ++ (codes " | "
    ++ (given_cell diff.from row.from ++ (codes " | " ++ (given_cell diff.to row.to
    ++ codes " | ")))))

-- a line of the table: a group
abbrev pub group_line : Diff → Bool → Group → List ℕ
group_line diff lists_all group =
    cells_text diff group.head.row.now
    ++ (flat_map (λ binary. binary_cell diff.binaries.items lists_all binary.items.items)
    group.binaries.items ++ (codes " |" ++ 10 ∷ []))

-- a line of the table: a change of the whole run
abbrev pub run_line : Diff → RowChange → List ℕ
run_line diff row = cells_text diff row ++ (codes "the run |" ++ 10 ∷ [])

-- a line of the table: the tests of one side alone, if there are some
abbrev pub alone_line : List ℕ → List TestId → List ℕ
alone_line word tests =
    if length tests == 0 then []
    else codes "| " ++ (word ++ (codes " |  |  | "
    ++ (flat_map test_cell tests ++ (codes " |" ++ 10 ∷ []))))

-- how many tests change
abbrev pub last_text : Diff → List ℕ
last_text diff =
    10 ∷ (decimal (length diff.changed.items) ++ (codes " of "
    ++ (decimal diff.compared ++ (codes " tests change" ++ 10 ∷ []))))

-- the head of the table
abbrev pub head_text : List ℕ
head_text =
    codes "| Setting | From | To | Tests |" ++ 10 ∷ (codes "|---|---|---|---|" ++ 10 ∷ [])

-- the table of a diff, whose changes are in groups
abbrev pub table_text : Diff → Bool → List Group → List ℕ
table_text diff lists_all groups =
    head_text ++ (flat_map (group_line diff lists_all) groups
    ++ (alone_line (codes "removed") diff.removed.items
    ++ (alone_line (codes "added") diff.added.items
    ++ (flat_map (run_line diff) diff.run.items ++ last_text diff))))

-- A text is the table of a diff: its changes are in groups, and it has what they are.
pub record IsMarkdownText (diff : Diff) (lists_all : Bool) (text : List ℕ) : Type 0 where
  pub groups : List Group
  pub are_groups : AreGroups diff.changed.items groups
  pub is_text : text ≡ table_text diff lists_all groups
