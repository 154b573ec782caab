-- What changes between two lists of rows that may have different keys.
use Rattle.std.specs.Prelude.{◌≡◌, ℕ, ◌<◌, ◌⊎◌, [], ◌∷◌, false, Bool, List, ◌++◌, length, None, Some, option_map, filter, map, take, slice_get, bytes_eq, string_bytes}
use Rattle.std.specs.List.{All, AllZip, list_any}
use Rattle.std.specs.List.Sorted.{IsPermutation}
use Rattle.rinqebo_report.specs.declared.report.SettingRow.{SettingRow}
use Rattle.rinqebo_changes.specs.declared.change.RowChange.{RowChange}
use Rattle.rinqebo_changes.specs.Changes.{changed_rows, is_change, side_row}
use Rattle.rinqebo_changes.specs.ValueViews.{value_view}

-- whether a row is of a key
abbrev pub is_of : List ℕ → SettingRow → Bool
is_of name row = bytes_eq (string_bytes row.key) name

-- whether some row is of a key
abbrev pub has_key : List SettingRow → List ℕ → Bool
has_key rows name = list_any (is_of name) rows

-- the rows of a key, in order
abbrev pub rows_of : List ℕ → List SettingRow → List SettingRow
rows_of name rows = filter (is_of name) rows

-- Rows are some of all, in the same order.
pub data AreSome : List SettingRow → List SettingRow → Type 0 where
  no_more : AreSome [] []
  with_row : {row : SettingRow} {some all : List SettingRow} → AreSome some all
      → AreSome (row ∷ some) (row ∷ all)
  without_row : {row : SettingRow} {some all : List SettingRow} → AreSome some all
      → AreSome some (row ∷ all)

-- Two lists have the same rows, and those of each key in the same order.
pub record KeepsOrder (old new : List SettingRow) : Type 0 where
  pub each : (name : List ℕ) → rows_of name old ≡ rows_of name new

-- two rows are of the same key
abbrev pub HaveSameKey : SettingRow → SettingRow → Type 0
HaveSameKey left right = string_bytes left.key ≡ string_bytes right.key

-- A row says that a side has no value for a key.
pub record IsAbsent (name : List ℕ) (row : SettingRow) : Type 0 where
  pub key : string_bytes row.key ≡ name
  pub value : row.value ≡ None
  pub origins : row.origins.items ≡ []

-- a row says that a side has no value for the key of another one
abbrev pub IsAbsentFor : SettingRow → SettingRow → Type 0
IsAbsentFor row = IsAbsent (string_bytes row.key)

-- A row says that a side has no value.
pub record SaysNothing (row : SettingRow) : Type 0 where
  pub value : row.value ≡ None
  pub origins : row.origins.items ≡ []

-- A place among rows is that of the first row of a key.
pub record IsPlaceOf (name : List ℕ) (rows : List SettingRow) (place : ℕ) : Type 0 where
  pub below : place < length rows
  pub key : (row : SettingRow) → slice_get rows place ≡ Some row → string_bytes row.key ≡ name
  pub first : has_key (take place rows) name ≡ false

-- A row is the first one of a key among rows, and others are left.
pub record IsFound (name : List ℕ) (old : List SettingRow) (row : SettingRow)
    (new : List SettingRow) : Type 0 where
  pub key : string_bytes row.key ≡ name
  pub kept : IsPermutation old (row ∷ new)
  pub order : KeepsOrder old (row ∷ new)
  pub rest : AreSome new old

-- No row is of a key, and a row says so.
pub record IsMissing (name : List ℕ) (old : List SettingRow) (row : SettingRow)
    (new : List SettingRow) : Type 0 where
  pub same : new ≡ old
  pub none : has_key old name ≡ false
  pub absent : IsAbsent name row

-- a row of a key is taken out of rows, or there is none, and a row says so
abbrev pub IsTaken : List ℕ → List SettingRow → SettingRow → List SettingRow → Type 0
IsTaken name old row new = IsFound name old row new ⊎ IsMissing name old row new

-- Rows of the right side are put beside those of the left side, and others are left: they have the
-- same keys, and where none of the right side was left for a key, a row has no value. Those that
-- are left keep their order.
pub record AreBeside (to from right rest : List SettingRow) : Type 0 where
  pub absent : List SettingRow
  pub nothing : All SaysNothing absent
  pub kept : IsPermutation (to ++ absent) (right ++ rest)
  pub order : KeepsOrder (to ++ absent) (right ++ rest)
  pub keys : AllZip HaveSameKey from right
  pub apart : All (λ row. has_key rest (string_bytes row.key) ≡ false) absent
  pub left : AreSome rest to

-- Rows of two sides are put beside each other: the left ones are those of the left side and then
-- rows without a value, the right ones are those of the right side, in another order, and rows
-- without a value, and two beside each other have the same key. Rows of one key keep their order,
-- and so do those that the right side has alone, which are the last ones. No key has a row without
-- a value on both sides: each row has one of the other side beside it, unless those are used up.
pub record AreAligned (from to left right : List SettingRow) : Type 0 where
  pub left_absent : List SettingRow
  pub left_nothing : All SaysNothing left_absent
  pub left_rows : left ≡ from ++ left_absent
  pub right_absent : List SettingRow
  pub right_nothing : All SaysNothing right_absent
  pub right_rows : IsPermutation (to ++ right_absent) right
  pub right_order : KeepsOrder (to ++ right_absent) right
  pub keys : AllZip HaveSameKey left right
  pub apart : All (λ row. has_key left_absent (string_bytes row.key) ≡ false) right_absent
  pub beside : List SettingRow
  pub beside_keys : AllZip HaveSameKey from beside
  pub alone : List SettingRow
  pub alone_order : AreSome alone to
  pub right_parts : right ≡ beside ++ alone

-- Changes are those between two lists of rows: rows of the same key are put beside each other, and
-- those change whose values differ.
pub record AreKeyedChanges (from to : List SettingRow) (changes : List RowChange) : Type 0 where
  pub left : List SettingRow
  pub right : List SettingRow
  pub aligned : AreAligned from to left right
  pub are_changes : changes ≡ changed_rows (is_change [] [] false) (map side_row left)
      (map side_row right)

-- Two rows are of the same key and have the same value.
pub record AreAlike (row other : SettingRow) : Type 0 where
  pub key : HaveSameKey row other
  pub value : option_map value_view row.value ≡ option_map value_view other.value
