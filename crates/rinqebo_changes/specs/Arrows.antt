-- Rows of two things with an arrow between them, within the columns of a page.
use Rattle.std.specs.Prelude.{ℕ, List, [], ◌∷◌, ◌++◌, codes, if◌then◌else◌}
use Rattle.rinqebo_report.specs.declared.piece.Style.{Style}
use Rattle.rinqebo_report.specs.Layout.{fits}
use Rattle.rinqebo_report.specs.Pieces.{Run, styled, repeated, ending}

-- two things on one line, with an arrow between them
abbrev pub arrow_line : Style → List Run → List Run → List Run
arrow_line style left right = left ++ styled style (codes " -> ") ∷ right

-- what is behind an arrow that begins a line, behind so many blanks
abbrev pub behind_arrow : ℕ → Style → List Run → List Run
behind_arrow indent style right = repeated 32 indent ∷ styled style (codes "-> ") ∷ right

-- two things with an arrow between them: on one line if it fits, and else on two, of which the
-- arrow begins the second
abbrev pub arrow_runs : ℕ → ℕ → Style → List Run → List Run → List Run
arrow_runs columns indent style left right =
    if fits columns (arrow_line style left right) then arrow_line style left right ++ ending ∷ []
    else left ++ (ending ∷ (behind_arrow indent style right ++ ending ∷ []))
