-- Rows of the table by their triples.
use Rattle.std.specs.Prelude.{◌≡◌, ℕ, List, Option, Some, find, map, Contains}
use Rattle.std.specs.Cmp.Lexicographic.{slice_cmp}
use Rattle.std.specs.List.Sorted.{IsStrictlySortedBy}
use Rattle.std.specs.Ordering.{nat_cmp}
use Rattle.std.specs.Str.{bytes_eq}
use Rattle.platform_language.specs.Platforms.Rows.{Row}

-- the first row of this triple, if there is one
abbrev pub row_of : List Row → List ℕ → Option Row
row_of rows triple = find (λ row. bytes_eq row.triple triple) rows

-- The triple of each row is before those of all later rows, byte by byte. So no two are the
-- same.
abbrev pub TriplesRise : List Row → Type 0
TriplesRise rows = IsStrictlySortedBy (slice_cmp nat_cmp) (map (λ row. row.triple) rows)

-- Each row is the first of its triple.
abbrev pub RowsAreFound : List Row → Type 0
RowsAreFound rows = (row : Row) → Contains rows row → row_of rows row.triple ≡ Some row
