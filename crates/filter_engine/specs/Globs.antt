-- Globs: the parts that a text writes, and the names that they take.
use Rattle.std.specs.Prelude.{◌≡◌, ℕ, ◌+◌, ◌<◌, ◌⊎◌, ◌↔◌, Bool, true, false, not, ◌||◌, ◌&&◌, ◌==◌, if◌then◌else◌, List, [], ◌∷◌, ◌++◌, length, All, ⊤}
use Rattle.regex_nfa.specs.declared.nfa.Nfa.{Nfa}
use Rattle.filter_engine.specs.GlobClasses.{GlobClass, WritesClass, ClassTakes}
use Rattle.filter_engine.specs.Runs.{finds}
use Rattle.filter_engine.specs.declared.glob.place.Place.{Place}
use Rattle.filter_engine.specs.declared.glob.place.Place.TheVariants.{Start, BehindFolders, BehindSlash, Elsewhere}
use Rattle.filter_engine.specs.declared.glob.part.GlobPart.{GlobPart}
use Rattle.filter_engine.specs.declared.glob.part.GlobPart.TheVariants.{Byte, AnyByte, AnyBytes, Folders, Nothing}

mutual
  -- A row of parts, classes and groups, as a glob is and each branch of a group.
  pub data Row : Type 0 where
    end : Row
    part : GlobPart → Row → Row
    class : GlobClass → Row → Row
    group : Branches → Row → Row

  -- The branches of a group, of which there is one at least.
  pub data Branches : Type 0 where
    only : Row → Branches
    also : Row → Branches → Branches

-- whether the byte is literal only behind a backslash: `?`, `*`, `[`, `\`, `{` and `}`
abbrev pub is_special : ℕ → Bool
is_special byte = byte == 63 || byte == 42 || byte == 91 || byte == 92 || byte == 123 || byte == 125

-- whether a row ends there: a glob with the text, and a branch before a comma or a closing brace
abbrev pub ends_row : Bool → List ℕ → Bool
ends_row false [] = true
ends_row false (byte ∷ text) = false
ends_row true [] = false
ends_row true (byte ∷ text) = byte == 44 || byte == 125

-- whether folders may be there: at the start of a row, or behind a slash
abbrev pub opens : Place → Bool
opens Start = true
opens BehindFolders = true
opens BehindSlash = true
opens Elsewhere = false

-- whether nothing but folders is in front, in this row
abbrev pub leads : Place → Bool
leads Start = true
leads BehindFolders = true
leads BehindSlash = false
leads Elsewhere = false

-- the place behind a part
abbrev pub behind : Place → GlobPart → Place
behind place (Byte byte) = if byte == 47 then BehindSlash else Elsewhere
behind place AnyByte = Elsewhere
behind place AnyBytes = Elsewhere
behind place Folders = if leads place then BehindFolders else BehindSlash
behind place Nothing = Elsewhere

-- whether folders that end before this rest are the last of a glob of nothing but folders
abbrev pub is_whole : Bool → Place → List ℕ → Bool
is_whole inside place rest = not inside && leads place && ends_row inside rest

-- whether stars that end before this rest are the last of a branch and behind nothing but folders
abbrev pub is_last : Bool → Place → List ℕ → Bool
is_last inside BehindFolders rest = inside && ends_row inside rest
is_last inside Start rest = false
is_last inside BehindSlash rest = false
is_last inside Elsewhere rest = false

-- what folders before this rest are
abbrev pub folders_part : Bool → Place → List ℕ → GlobPart
folders_part inside place rest = if is_whole inside place rest then AnyBytes else Folders

module _ (inside : Bool) (place : Place) where
  -- The text writes folders, `**/` where they may be, and the rest.
  abbrev pub WritesFolders : List ℕ → List ℕ → Type 0
  WritesFolders text rest = (text ≡ 42 ∷ 42 ∷ 47 ∷ rest) × (opens place ≡ true)

  -- The text writes the last stars of a branch, `**` behind nothing but folders, and the rest.
  abbrev pub WritesLast : List ℕ → List ℕ → Type 0
  WritesLast text rest = (text ≡ 42 ∷ 42 ∷ rest) × (is_last inside place rest ≡ true)

  -- The text writes the part and the rest, in a branch or in none, at this place of the row.
  abbrev pub WritesPart : List ℕ → GlobPart → List ℕ → Type 0
  WritesPart text (Byte byte) rest =
      ((text ≡ byte ∷ rest) × (is_special byte ≡ false)) ⊎ (text ≡ 92 ∷ byte ∷ rest)
  WritesPart text AnyByte rest = text ≡ 63 ∷ rest
  WritesPart text AnyBytes rest =
      (WritesFolders text rest × (is_whole inside place rest ≡ true))
      ⊎ ((text ≡ 42 ∷ rest) × ((other : List ℕ) → WritesFolders text other → ⊥)
      × ((other : List ℕ) → WritesLast text other → ⊥))
  WritesPart text Folders rest = WritesFolders text rest × (is_whole inside place rest ≡ false)
  WritesPart text Nothing rest = WritesLast text rest

abbrev mutual
  -- The text writes the row and the rest, in a branch or in none, where so many levels of groups
  -- may still open, from this place of the row on.
  pub WritesRow : Bool → ℕ → Place → List ℕ → Row → List ℕ → Type 0
  WritesRow inside levels place text end rest = (text ≡ rest) × (ends_row inside text ≡ true)
  WritesRow inside levels place text (part this row) rest =
      (ends_row inside text ≡ false)
      × ((mid : List ℕ) × WritesPart inside place text this mid
      × WritesRow inside levels (behind place this) mid row rest)
  WritesRow inside levels place text (class this row) rest =
      (inner : List ℕ) × (mid : List ℕ) × (text ≡ 91 ∷ inner) × WritesClass inner this mid
      × WritesRow inside levels Elsewhere mid row rest
  WritesRow inside levels place text (group branches row) rest =
      (inner : List ℕ) × (mid : List ℕ) × (below : ℕ) × (text ≡ 123 ∷ inner)
      × (levels ≡ below + 1) × WritesBranches below inner branches mid
      × WritesRow inside levels Elsewhere mid row rest

  -- The text behind an opening brace writes the branches, a closing brace and the rest.
  pub WritesBranches : ℕ → List ℕ → Branches → List ℕ → Type 0
  WritesBranches levels text (only row) rest = WritesRow true levels Start text row (125 ∷ rest)
  WritesBranches levels text (also row branches) rest =
      (next : List ℕ) × WritesRow true levels Start text row (44 ∷ next)
      × WritesBranches levels next branches rest

abbrev mutual
  -- whether the row is empty: it has no part and no class, and each branch of its groups is empty
  pub is_empty : Row → Bool
  is_empty end = true
  is_empty (part this row) = false
  is_empty (class this row) = false
  is_empty (group branches row) = are_empty branches && is_empty row

  -- whether each branch is empty
  pub are_empty : Branches → Bool
  are_empty (only row) = is_empty row
  are_empty (also row branches) = is_empty row && are_empty branches

-- The part takes these bytes.
abbrev pub PartTakes : GlobPart → List ℕ → Type 0
PartTakes (Byte byte) bytes = bytes ≡ byte ∷ []
PartTakes AnyByte bytes = length bytes ≡ 1
PartTakes AnyBytes bytes = ⊤
PartTakes Folders bytes = (bytes ≡ []) ⊎ ((front : List ℕ) × (bytes ≡ front ++ 47 ∷ []))
PartTakes Nothing bytes = bytes ≡ []

-- The bytes are a front and a rest of these kinds.
abbrev pub Joins : (List ℕ → Type 0) → (List ℕ → Type 0) → List ℕ → Type 0
Joins Front Rest bytes =
    (front : List ℕ) × (rest : List ℕ) × (bytes ≡ front ++ rest) × Front front × Rest rest

abbrev mutual
  -- The row takes these bytes, part by part. A group takes what one of its branches takes that are
  -- not empty, or nothing where all are empty.
  pub RowTakes : Row → List ℕ → Type 0
  RowTakes end bytes = bytes ≡ []
  RowTakes (part this row) bytes = Joins (PartTakes this) (RowTakes row) bytes
  RowTakes (class this row) bytes = Joins (ClassTakes this) (RowTakes row) bytes
  RowTakes (group branches row) bytes =
      Joins (λ front. SomeTakes branches front ⊎ ((are_empty branches ≡ true) × (front ≡ [])))
      (RowTakes row) bytes

  -- One of the branches that are not empty takes these bytes.
  pub SomeTakes : Branches → List ℕ → Type 0
  SomeTakes (only row) bytes = (is_empty row ≡ false) × RowTakes row bytes
  SomeTakes (also row branches) bytes =
      ((is_empty row ≡ false) × RowTakes row bytes) ⊎ SomeTakes branches bytes

-- The text writes a row of which groups nest at most 250 deep, and nothing else.
abbrev pub WritesGlob : List ℕ → Row → Type 0
WritesGlob text row = WritesRow false 250 Start text row []

-- The text writes a glob.
unfoldable pub IsGlob : List ℕ → Type 0
IsGlob text = (row : Row) × WritesGlob text row

-- The text writes a glob that takes the whole name.
unfoldable pub GlobMatches : List ℕ → List ℕ → Type 0
GlobMatches text name = (row : Row) × WritesGlob text row × RowTakes row name

-- The text has no byte that is special in a glob.
abbrev pub IsPlain : List ℕ → Type 0
IsPlain text = All (λ byte. is_special byte ≡ false) text

-- The automaton finds a match just in the names that the glob takes.
abbrev pub IsGlobMachine : List ℕ → Nfa → Type 0
IsGlobMachine text nfa =
    (name : List ℕ) → All (λ byte. byte < 256) name
    → (finds nfa name ≡ true) ↔ GlobMatches text name
