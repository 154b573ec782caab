-- What pages have in common for every number of columns, and which of their lines fit.
use Rattle.std.specs.Prelude.{◌≡◌, ◌==◌, ◌||◌, ℕ, Bool, true, List, [], ◌∷◌, ◌++◌, ⊤, filter, not}
use Rattle.rinqebo_report.specs.declared.piece.Colour.TheVariants as colours
use Rattle.rinqebo_report.specs.Layout.{fits}
use Rattle.rinqebo_report.specs.Pieces.{Run, styled, repeated, numbered, ending, page_text}

-- whether a byte only joins or parts the texts of a page: a blank, the end of a line, a comma or a
-- number sign
abbrev pub is_joint : ℕ → Bool
is_joint c = c == 32 || c == 10 || c == 44 || c == 35

-- a text without these bytes
abbrev pub solid : List ℕ → List ℕ
solid text = filter (λ c. not (is_joint c)) text

-- the page of pieces without colours, and without these bytes
abbrev pub solid_page : List Run → List ℕ
solid_page runs = solid (page_text colours.Plain runs)

-- pieces on one line: none of them ends it
abbrev pub IsOnLine : List Run → Type 0
IsOnLine [] = ⊤
IsOnLine (styled style text ∷ runs) = IsOnLine runs
IsOnLine (repeated c count ∷ runs) = IsOnLine runs
IsOnLine (numbered n ∷ runs) = IsOnLine runs
IsOnLine (ending ∷ runs) = ⊥

-- the lines of pieces, after the pieces that the first line begins with
abbrev pub lines_from : List Run → List Run → List (List Run)
lines_from [] [] = []
lines_from (run ∷ line) [] = (run ∷ line) ∷ []
lines_from line (styled style text ∷ runs) = lines_from (line ++ styled style text ∷ []) runs
lines_from line (repeated c count ∷ runs) = lines_from (line ++ repeated c count ∷ []) runs
lines_from line (numbered n ∷ runs) = lines_from (line ++ numbered n ∷ []) runs
lines_from line (ending ∷ runs) = line ∷ lines_from [] runs

-- the lines of pieces: what is between their ends
abbrev pub lines_of : List Run → List (List Run)
lines_of runs = lines_from [] runs

-- a line takes at most so many columns
abbrev pub Fits : ℕ → List Run → Type 0
Fits columns line = fits columns line ≡ true
