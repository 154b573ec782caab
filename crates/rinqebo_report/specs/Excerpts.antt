-- Lines of files as pages show them, the signs below them, and the remarks below findings.
use Rattle.std.specs.Prelude.{ℕ, ◌-◌, ◌==◌, max, Bool, true, false, ◌||◌, ◌&&◌, not, List, [], ◌∷◌, ◌++◌, Option, None, Some, is_some, length, fold, flat_map, take, codes, decimal, String, string_bytes, if◌then◌else◌}
use Rattle.std.specs.declared.alloc.Global.{Global}
use Rattle.std.specs.Str.{chars}
use Rattle.unicode_width.specs.Width.{str_width}
use Rattle.rinqebo_report.specs.declared.finding.Finding.{Finding}
use Rattle.rinqebo_report.specs.declared.finding.HelpPlace.{HelpPlace}
use Rattle.rinqebo_report.specs.declared.finding.HelpPlace.TheVariants as places
use Rattle.rinqebo_report.specs.declared.finding.LinePart.{LinePart}
use Rattle.rinqebo_report.specs.declared.finding.Sign.{Sign}
use Rattle.rinqebo_report.specs.declared.finding.Sign.TheVariants as signs
use Rattle.rinqebo_report.specs.declared.finding.SourceLine.{SourceLine}
use Rattle.rinqebo_report.specs.declared.piece.Style.TheVariants as styles
use Rattle.rinqebo_report.specs.Pieces.{Run, styled, repeated, numbered, ending, shown_char}

-- a text without colours
abbrev pub plain : List ℕ → Run
plain text = styled styles.Plain text

-- a character of a line on a page: a tab as four spaces
abbrev pub line_char : ℕ → List ℕ
line_char c = if c == 9 then codes "    " else shown_char c

-- a line on a page
abbrev pub line_text : List ℕ → List ℕ
line_text text = flat_map line_char (chars text)

-- how many columns the first characters of a line take on a page
abbrev pub front_width : List ℕ → ℕ → ℕ
front_width text n = str_width false (chars (flat_map line_char (take n (chars text))))

-- the character of a sign
abbrev pub sign_char : Sign → ℕ
sign_char signs.Blank = 32
sign_char signs.Fault = 94
sign_char signs.Related = 45

-- the least number of columns of a sign: pages show it below an empty part, too
abbrev pub least_width : Sign → ℕ
least_width signs.Blank = 0
least_width signs.Fault = 1
least_width signs.Related = 1

-- the sign below a part of a line, as wide as the part
abbrev pub part_runs : List ℕ → LinePart → List Run
part_runs text part =
    repeated (sign_char part.sign) (max (least_width part.sign)
    (front_width text part.span.to - front_width text part.span.from)) ∷ []

-- the margin of a row, as wide as the widest number
abbrev pub margin_runs : ℕ → List ℕ → List Run
margin_runs w text = plain (codes " ") ∷ repeated 32 w ∷ plain text ∷ []

-- how many digits a number has
abbrev pub digit_count : ℕ → ℕ
digit_count n = length (decimal n)

-- how wide the widest number of lines is
abbrev pub number_width : List SourceLine → ℕ
number_width lines = fold (λ w line. max w (digit_count line.number)) 1 lines

-- the number of a line, and its text
abbrev pub numbered_runs : ℕ → SourceLine → List Run
numbered_runs w line =
    plain (codes " ") ∷ repeated 32 (w - digit_count line.number) ∷ numbered line.number
    ∷ plain (codes " | ") ∷ plain (line_text (string_bytes line.text)) ∷ []

-- the signs below the parts of a line
abbrev pub signs_runs : ℕ → SourceLine → List Run
signs_runs w line =
    margin_runs w (codes " | ") ++ flat_map (part_runs (string_bytes line.text)) line.parts.items

-- a line and the signs below it, on rows of their own
abbrev pub line_runs : ℕ → SourceLine → List Run
line_runs w line = ending ∷ (numbered_runs w line ++ ending ∷ signs_runs w line)

-- whether the help belongs beside the carets
abbrev pub is_beside : HelpPlace → Bool
is_beside places.Beside = true
is_beside places.Below = false

-- whether a list has something
abbrev pub has_some : {X : Type 0} → List X → Bool
has_some [] = false
has_some (x ∷ xs) = true

-- whether pages show the help of a finding beside the carets: there are lines, and it belongs there
abbrev pub shows_beside : Finding → Bool
shows_beside finding = has_some finding.lines.items && is_beside finding.help_place

-- the help beside the carets
abbrev pub beside_runs : Option (String Global) → List Run
beside_runs None = []
beside_runs (Some help) = plain (codes " ") ∷ styled styles.Help (string_bytes help) ∷ []

-- the help of a finding beside the carets, if pages show it there
abbrev pub label_runs : Finding → List Run
label_runs finding = if shows_beside finding then beside_runs finding.help else []

-- the lines that show a fault, below a margin
abbrev pub excerpt_runs : ℕ → Finding → List Run
excerpt_runs w finding =
    if has_some finding.lines.items
    then margin_runs w (codes " |") ++ (flat_map (line_runs w) finding.lines.items
    ++ (label_runs finding ++ ending ∷ []))
    else []

-- a remark below a finding
abbrev pub noted_runs : ℕ → List ℕ → String Global → List Run
noted_runs w word text =
    margin_runs w (codes " ") ++ styled styles.Help word ∷ plain (string_bytes text) ∷ ending ∷ []

-- a remark below a finding, if there is one
abbrev pub remark_runs : ℕ → List ℕ → Option (String Global) → List Run
remark_runs w word None = []
remark_runs w word (Some text) = noted_runs w word text

-- whether remarks follow help that is beside the carets
abbrev pub parts_remarks : Finding → Bool
parts_remarks finding =
    shows_beside finding && (is_some finding.expected || has_some finding.notes.items)

-- a margin alone, between help beside the carets and remarks
abbrev pub parting_runs : ℕ → Finding → List Run
parting_runs w finding =
    if parts_remarks finding then margin_runs w (codes " |") ++ ending ∷ [] else []

-- the help below a finding, if pages do not show it beside the carets
abbrev pub help_runs : ℕ → Finding → List Run
help_runs w finding =
    if shows_beside finding then [] else remark_runs w (codes "= help: ") finding.help

-- the remarks of a finding: what is expected, the notes, and the help
abbrev pub remarks_runs : ℕ → Finding → List Run
remarks_runs w finding =
    parting_runs w finding ++ (remark_runs w (codes "= expected: ") finding.expected
    ++ (flat_map (noted_runs w (codes "= note: ")) finding.notes.items ++ help_runs w finding))
