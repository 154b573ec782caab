-- What a row of the table says of a platform.
use Rattle.std.specs.Prelude.{ℕ, ◌==◌, ◌++◌, false, if◌then◌else◌, List, [], ◌∷◌, length, map, flat_map, Some, None, codes}
use Rattle.std.specs.Borrow.{Bor}
use Rattle.std.specs.List.{slice_split}
use Rattle.platform_language.specs.Platforms.Platforms.{Line, PlatformData}
use Rattle.platform_language.specs.declared.platforms.row.TargetRow.{TargetRow}

-- A row of the table: a triple, and what the compiler prints for it, column by column.
pub record Row : Type 0 where
  pub triple : List ℕ
  pub arch : List ℕ
  pub vendor : List ℕ
  pub os : List ℕ
  pub env : List ℕ
  pub abi : List ℕ
  pub endian : List ℕ
  pub pointer_width : List ℕ
  pub panic : List ℕ
  pub families : List ℕ
  pub atomics : List ℕ
  pub features : List ℕ
  pub names : List ℕ

-- a row of these columns
abbrev pub row : (triple arch vendor os env abi endian pointer_width : List ℕ)
    → (panic families atomics features names : List ℕ) → Row
row triple arch vendor os env abi endian pointer_width panic families atomics features names =
    record {
      triple = triple;
      arch = arch;
      vendor = vendor;
      os = os;
      env = env;
      abi = abi;
      endian = endian;
      pointer_width = pointer_width;
      panic = panic;
      families = families;
      atomics = atomics;
      features = features;
      names = names;
    }

-- what a row says
abbrev pub row_view : TargetRow → Row
row_view row = record {
  triple = row.triple.now;
  arch = row.arch.now;
  vendor = row.vendor.now;
  os = row.os.now;
  env = row.env.now;
  abi = row.abi.now;
  endian = row.endian.now;
  pointer_width = row.pointer_width.now;
  panic = row.panic.now;
  families = row.families.now;
  atomics = row.atomics.now;
  features = row.features.now;
  names = row.names.now;
}

-- two texts that are borrowed
abbrev pub texts_of : Bor (List ℕ) × Bor (List ℕ) → List ℕ × List ℕ
texts_of pair = (pair.0.now, pair.1.now)

-- the line of a key with a value
abbrev pub value_line : List ℕ × List ℕ → Line
value_line column = record { key = column.0; value = Some column.1 }

-- the line of a name
abbrev pub name_line : List ℕ → Line
name_line name = record { key = name; value = None }

-- what is between the commas of a cell; an empty cell has nothing
abbrev pub parts_of : List ℕ → List (List ℕ)
parts_of cell = if length cell == 0 then [] else slice_split (λ byte. byte == 44) cell

-- the lines of a key with each of the values of a cell
abbrev pub lines_of_cell : List ℕ × List ℕ → List Line
lines_of_cell column = map (λ value. value_line (column.0, value)) (parts_of column.1)

-- the keys that have one value each
abbrev pub value_columns : Row → List (List ℕ × List ℕ)
value_columns row =
    (codes "target_arch", row.arch)
    ∷ (codes "target_vendor", row.vendor)
    ∷ (codes "target_os", row.os)
    ∷ (codes "target_env", row.env)
    ∷ (codes "target_abi", row.abi)
    ∷ (codes "target_endian", row.endian)
    ∷ (codes "target_pointer_width", row.pointer_width)
    ∷ (codes "panic", row.panic)
    ∷ []

-- the keys that may have several values
abbrev pub list_columns : Row → List (List ℕ × List ℕ)
list_columns row =
    (codes "target_family", row.families)
    ∷ (codes "target_has_atomic", row.atomics)
    ∷ (codes "target_feature", row.features)
    ∷ []

-- the lines of a row: keys with one value each, keys with each of their values, names
unfoldable pub lines_of_row : Row → List Line
lines_of_row row =
    map value_line (value_columns row)
    ++ flat_map lines_of_cell (list_columns row)
    ++ map name_line (parts_of row.names)

-- the platform of a row
abbrev pub platform_of_row : Row → PlatformData
platform_of_row row = record {
  triple = row.triple;
  lines = lines_of_row row;
  features_given = false;
}
