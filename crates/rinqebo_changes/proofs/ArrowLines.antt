-- Rows with an arrow say the same for every number of columns, and their lines fit where their parts do.
use Rattle.std.proofs.Common.{◌≡◌, ◌∙◌, ℕ, zero, suc, Bool, true, false, cond, List, [], ◌∷◌, ◌++◌, codes, refl, sym, ap, subst, append_assoc}
use Rattle.std.proofs.lemmas.List.{append-nil}
use Rattle.std.specs.Char.{encode_utf8}
use Rattle.std.specs.List.{AllByRecursion}
use Rattle.std.specs.Str.{chars}
use Rattle.rinqebo_report.specs.Columns.{lines_from, lines_of, solid_page, IsOnLine, Fits}
use Rattle.rinqebo_report.specs.Layout.{fits}
use Rattle.rinqebo_report.specs.Pieces.{Run, styled, repeated, numbered, ending}
use Rattle.rinqebo_report.specs.declared.piece.Style.{Style}
use Rattle.rinqebo_report.proofs.Solid.{page-append}
use Rattle.rinqebo_changes.specs.Arrows.{arrow_line, arrow_runs, behind_arrow}

-- blanks say nothing
blanks_say : (n : ℕ) → solid_page (repeated 32 n ∷ []) ≡ []
unfolding encode_utf8
blanks_say zero = refl
blanks_say (suc n) = blanks_say n

-- arrows with blanks around them say the same
arrow_says : (style : Style) → solid_page (styled style (codes " -> ") ∷ []) ≡ codes "->"
unfolding encode_utf8 chars
arrow_says style = refl

begun_says : (style : Style) → solid_page (styled style (codes "-> ") ∷ []) ≡ codes "->"
unfolding encode_utf8 chars
begun_says style = refl

-- what both forms of a row say
abbrev all_said : List Run → List Run → List ℕ
all_said left right = solid_page left ++ (codes "->" ++ solid_page right)

-- the end of a line says nothing
ended_says : (line : List Run) → solid_page (line ++ ending ∷ []) ≡ solid_page line
ended_says line = page-append line (ending ∷ []) ∙ append-nil (solid_page line)

one_says : (style : Style) (left right : List Run)
    → solid_page (arrow_line style left right ++ ending ∷ []) ≡ all_said left right
one_says style left right =
    ended_says (arrow_line style left right) ∙ page-append left (styled style (codes " -> ") ∷ right)
    ∙ ap (λ t. solid_page left ++ t)
    (page-append (styled style (codes " -> ") ∷ []) right ∙ ap (λ t. t ++ solid_page right) (arrow_says style))

behind_says : (indent : ℕ) (style : Style) (right : List Run)
    → solid_page (behind_arrow indent style right) ≡ codes "->" ++ solid_page right
behind_says indent style right =
    page-append (repeated 32 indent ∷ []) (styled style (codes "-> ") ∷ right)
    ∙ ap (λ t. t ++ solid_page (styled style (codes "-> ") ∷ right)) (blanks_say indent)
    ∙ page-append (styled style (codes "-> ") ∷ []) right ∙ ap (λ t. t ++ solid_page right) (begun_says style)

two_say : (indent : ℕ) (style : Style) (left right : List Run)
    → solid_page (left ++ (ending ∷ (behind_arrow indent style right ++ ending ∷ []))) ≡ all_said left right
two_say indent style left right =
    page-append left (ending ∷ (behind_arrow indent style right ++ ending ∷ []))
    ∙ ap (λ t. solid_page left ++ t) (ended_says (behind_arrow indent style right) ∙ behind_says indent style right)

row_says : (columns indent : ℕ) (style : Style) (left right : List Run)
    → solid_page (arrow_runs columns indent style left right) ≡ all_said left right
row_says columns indent style left right =
    let one : List Run = arrow_line style left right ++ ending ∷ [] in
    let two : List Run = left ++ (ending ∷ (behind_arrow indent style right ++ ending ∷ [])) in
    let P : Bool → Type 0 = λ b. solid_page (cond b one two) ≡ all_said left right in
    elim (fits columns (arrow_line style left right)) as P [
      | true ↦ one_says style left right
      | false ↦ two_say indent style left right
    ]

pub arrows_say : (columns others indent : ℕ) (style : Style) (left right : List Run)
    → solid_page (arrow_runs columns indent style left right) ≡ solid_page (arrow_runs others indent style left right)
arrows_say columns others indent style left right =
    row_says columns indent style left right ∙ sym (row_says others indent style left right)

-- pieces on a line go to the line that is begun
lines_behind : (line front rest : List Run) → IsOnLine front
    → lines_from line (front ++ rest) ≡ lines_from (line ++ front) rest
lines_behind line [] rest h = ap (λ l. lines_from l rest) (sym (append-nil line))
lines_behind line (styled style text ∷ front) rest h =
    lines_behind (line ++ styled style text ∷ []) front rest h
    ∙ ap (λ l. lines_from l rest) (append_assoc line (styled style text ∷ []) front)
lines_behind line (repeated c count ∷ front) rest h =
    lines_behind (line ++ repeated c count ∷ []) front rest h
    ∙ ap (λ l. lines_from l rest) (append_assoc line (repeated c count ∷ []) front)
lines_behind line (numbered n ∷ front) rest h =
    lines_behind (line ++ numbered n ∷ []) front rest h
    ∙ ap (λ l. lines_from l rest) (append_assoc line (numbered n ∷ []) front)
lines_behind line (ending ∷ front) rest h = absurd h

on_line : (front rest : List Run) → IsOnLine front → IsOnLine rest → IsOnLine (front ++ rest)
on_line [] rest h k = k
on_line (styled style text ∷ front) rest h k = on_line front rest h k
on_line (repeated c count ∷ front) rest h k = on_line front rest h k
on_line (numbered n ∷ front) rest h k = on_line front rest h k
on_line (ending ∷ front) rest h k = absurd h

-- a line that fits, and then lines that fit
lines_fit : (columns : ℕ) (front rest : List Run) → IsOnLine front → Fits columns front
    → AllByRecursion (Fits columns) (lines_of rest)
    → AllByRecursion (Fits columns) (lines_of (front ++ (ending ∷ rest)))
lines_fit columns front rest h fit later =
    subst (AllByRecursion (Fits columns)) (sym (lines_behind [] front (ending ∷ rest) h)) (fit, later)

pub arrows_fit : (columns indent : ℕ) (style : Style) (left right : List Run) → IsOnLine left → IsOnLine right
    → Fits columns left → Fits columns (behind_arrow indent style right)
    → AllByRecursion (Fits columns) (lines_of (arrow_runs columns indent style left right))
arrows_fit columns indent style left right h k one two =
    let line : List Run = arrow_line style left right in
    let behind : List Run = behind_arrow indent style right in
    let P : Bool → Type 0 = λ b. fits columns line ≡ b → AllByRecursion (Fits columns)
    (lines_of (cond b (line ++ ending ∷ []) (left ++ (ending ∷ (behind ++ ending ∷ []))))) in
    let cases : (b : Bool) → P b = λ b. elim b as P [
      | true ↦ (λ e. lines_fit columns line [] (on_line left (styled style (codes " -> ") ∷ right) h k) e tt)
      | false ↦ (λ e. lines_fit columns left (behind ++ ending ∷ []) h one (lines_fit columns behind [] k two tt))
    ] in
    cases (fits columns line) refl
