-- Which texts write globs, and which names these take, by functions that decide it.
use Rattle.std.specs.Prelude.{ℕ, ◌==◌, Bool, true, false, not, ◌||◌, ◌&&◌, List, [], ◌∷◌, length, Option, None, Some, is_some}
use Rattle.filter_engine.specs.GlobClasses.{in_class}
use Rattle.filter_engine.specs.Globs.{Row, end, part, class, group, Branches, only, also, is_empty, are_empty}
use Rattle.filter_engine.specs.GlobTexts.{glob_in}
use Rattle.filter_engine.specs.declared.glob.part.GlobPart.{GlobPart}
use Rattle.filter_engine.specs.declared.glob.part.GlobPart.TheVariants.{Byte, AnyByte, AnyBytes, Folders, Nothing}

-- whether there are no bytes
abbrev pub no_bytes : List ℕ → Bool
no_bytes [] = true
no_bytes (byte ∷ bytes) = false

-- whether there is one byte that passes
abbrev pub one_byte : (ℕ → Bool) → List ℕ → Bool
one_byte passes [] = false
one_byte passes (byte ∷ bytes) = passes byte && no_bytes bytes

-- whether the last byte is a slash
abbrev pub ends_in_slash : List ℕ → Bool
ends_in_slash [] = false
ends_in_slash (byte ∷ bytes) = (byte == 47 && no_bytes bytes) || ends_in_slash bytes

-- whether a part takes bytes
abbrev pub part_takes : GlobPart → List ℕ → Bool
part_takes (Byte byte) bytes = one_byte (λ other. other == byte) bytes
part_takes AnyByte bytes = length bytes == 1
part_takes AnyBytes bytes = true
part_takes Folders bytes = no_bytes bytes || ends_in_slash bytes
part_takes Nothing bytes = no_bytes bytes

-- whether bytes are a front that passes the one test and a rest that passes the other
abbrev pub splits_into : (List ℕ → Bool) → (List ℕ → Bool) → List ℕ → Bool
splits_into front rest [] = front [] && rest []
splits_into front rest (byte ∷ bytes) =
    (front [] && rest (byte ∷ bytes)) || splits_into (λ more. front (byte ∷ more)) rest bytes

abbrev mutual
  -- whether a row takes bytes
  pub row_takes : Row → List ℕ → Bool
  row_takes end bytes = no_bytes bytes
  row_takes (part this row) bytes = splits_into (part_takes this) (row_takes row) bytes
  row_takes (class this row) bytes = splits_into (one_byte (in_class this)) (row_takes row) bytes
  row_takes (group branches row) bytes =
      splits_into (λ front. some_takes branches front || (are_empty branches && no_bytes front))
      (row_takes row) bytes

  -- whether one of the branches that are not empty takes bytes
  pub some_takes : Branches → List ℕ → Bool
  some_takes (only row) bytes = not (is_empty row) && row_takes row bytes
  some_takes (also row branches) bytes =
      (not (is_empty row) && row_takes row bytes) || some_takes branches bytes

-- whether there is a row that takes bytes
abbrev pub is_taken : Option Row → List ℕ → Bool
is_taken None bytes = false
is_taken (Some row) bytes = row_takes row bytes

-- whether a text writes a glob
unfoldable pub writes_glob : List ℕ → Bool
writes_glob text = is_some (glob_in text)

-- whether a text writes a glob that takes the whole name
unfoldable pub glob_takes : List ℕ → List ℕ → Bool
glob_takes text name = is_taken (glob_in text) name
