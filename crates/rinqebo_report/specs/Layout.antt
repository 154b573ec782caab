-- Rows within the columns of a page, with their remarks beside or below them.
use Rattle.std.specs.Prelude.{ℕ, nat_le, Bool, false, List, [], ◌∷◌, ◌++◌, codes, flat_map, map, string_bytes, if◌then◌else◌}
use Rattle.std.specs.Str.{chars}
use Rattle.unicode_width.specs.Width.{str_width}
use Rattle.rinqebo_report.specs.declared.layout.Mark.{Mark}
use Rattle.rinqebo_report.specs.declared.layout.Mark.TheVariants as marks
use Rattle.rinqebo_report.specs.declared.layout.Remarks.{Remarks}
use Rattle.rinqebo_report.specs.declared.piece.Colour.TheVariants as colours
use Rattle.rinqebo_report.specs.declared.piece.Style.TheVariants as styles
use Rattle.rinqebo_report.specs.declared.piece.Style.{Style}
use Rattle.rinqebo_report.specs.Joined.{joined}
use Rattle.rinqebo_report.specs.Pieces.{Run, styled, repeated, ending, page_text}

-- the number of columns that a text takes in a terminal
abbrev pub width : List ℕ → ℕ
width text = str_width false (chars text)

-- whether pieces take at most so many columns on a page without colours
abbrev pub fits : ℕ → List Run → Bool
fits columns line = nat_le (width (page_text colours.Plain line)) columns

-- a line that is a remark
abbrev pub remark_line : List ℕ → List Run
remark_line text = styled styles.Remark text ∷ ending ∷ []

-- The remarks of a row: their mark, the blanks between the row and remarks beside it, the blanks
-- before remarks below it, and the texts.
pub record Said : Type 0 where
  pub mark : Mark
  pub gap : ℕ
  pub indent : ℕ
  pub texts : List (List ℕ)

-- the remarks of a row, as code has them
abbrev pub said_view : Remarks → Said
said_view remarks = record {
  mark = remarks.mark;
  gap = remarks.gap;
  indent = remarks.indent;
  texts = map string_bytes remarks.texts.items;
}

-- what a line of remarks begins with
abbrev pub mark_text : Mark → List ℕ
mark_text marks.Comment = codes "# "
mark_text marks.Bare = []

-- the style of remarks
abbrev pub mark_style : Mark → Style
mark_style marks.Comment = styles.Remark
mark_style marks.Bare = styles.Plain

-- all remarks of a row, with commas between them
abbrev pub said_text : Said → List ℕ
said_text said = mark_text said.mark ++ joined (codes ", ") (λ text. text) said.texts

-- a row on one line with its remarks
abbrev pub row_line : List Run → Said → List Run
row_line front said =
    front ++ repeated 32 said.gap ∷ styled (mark_style said.mark) (said_text said) ∷ []

-- a text on a line below a row
abbrev pub below_line : Said → List ℕ → List Run
below_line said text = repeated 32 said.indent ∷ styled (mark_style said.mark) text ∷ []

-- a remark on a line of its own
abbrev pub own_line_runs : Said → List ℕ → List Run
own_line_runs said text =
    repeated 32 said.indent ∷ styled (mark_style said.mark) (mark_text said.mark ++ text)
    ∷ ending ∷ []

-- the remarks of a row below it: on one line if they fit, and else each on a line of its own
abbrev pub below_runs : ℕ → Said → List Run
below_runs columns said =
    if fits columns (below_line said (said_text said))
    then below_line said (said_text said) ++ ending ∷ []
    else flat_map (own_line_runs said) said.texts

-- a row and its remarks: on one line if they fit, and else below the row
abbrev pub remarked_runs : ℕ → List Run → Said → List Run
remarked_runs columns front said =
    if fits columns (row_line front said) then row_line front said ++ ending ∷ []
    else front ++ (ending ∷ below_runs columns said)
