-- Lines of rows and headers fit where each of their parts does.
use Rattle.std.proofs.Common.{◌≡◌, ℕ, Bool, true, false, cond, List, [], ◌∷◌, ◌++◌, codes, flat_map, refl, sym, ap, ◌∙◌, subst, append_assoc}
use Rattle.std.proofs.lemmas.List.{append-nil}
use Rattle.std.specs.List.{AllByRecursion}
use Rattle.rinqebo_report.specs.Columns.{lines_from, lines_of, IsOnLine, Fits}
use Rattle.rinqebo_report.specs.Headers.{longer_line, has_room, filled_runs, header_runs}
use Rattle.rinqebo_report.specs.Layout.{Said, fits, remark_line, mark_text, said_text, row_line, below_line, own_line_runs, below_runs, remarked_runs}
use Rattle.rinqebo_report.specs.Pieces.{Run, styled, repeated, numbered, ending}
use Rattle.rinqebo_report.specs.declared.piece.Style.TheVariants as styles

-- pieces on a line go to the line that is begun
lines_behind : (line front rest : List Run) → IsOnLine front
    → lines_from line (front ++ rest) ≡ lines_from (line ++ front) rest
lines_behind line [] rest h = ap (λ l. lines_from l rest) (sym (append-nil line))
lines_behind line (styled style text ∷ front) rest h =
    lines_behind (line ++ styled style text ∷ []) front rest h
    ∙ ap (λ l. lines_from l rest) (append_assoc line (styled style text ∷ []) front)
lines_behind line (repeated c count ∷ front) rest h =
    lines_behind (line ++ repeated c count ∷ []) front rest h
    ∙ ap (λ l. lines_from l rest) (append_assoc line (repeated c count ∷ []) front)
lines_behind line (numbered n ∷ front) rest h =
    lines_behind (line ++ numbered n ∷ []) front rest h
    ∙ ap (λ l. lines_from l rest) (append_assoc line (numbered n ∷ []) front)
lines_behind line (ending ∷ front) rest h = absurd h

on_line : (front rest : List Run) → IsOnLine front → IsOnLine rest → IsOnLine (front ++ rest)
on_line [] rest h k = k
on_line (styled style text ∷ front) rest h k = on_line front rest h k
on_line (repeated c count ∷ front) rest h k = on_line front rest h k
on_line (numbered n ∷ front) rest h k = on_line front rest h k
on_line (ending ∷ front) rest h k = absurd h

-- a line that fits, and then lines that fit
lines_fit : (columns : ℕ) (front rest : List Run) → IsOnLine front → Fits columns front
    → AllByRecursion (Fits columns) (lines_of rest)
    → AllByRecursion (Fits columns) (lines_of (front ++ (ending ∷ rest)))
lines_fit columns front rest h fit later =
    subst (AllByRecursion (Fits columns)) (sym (lines_behind [] front (ending ∷ rest) h)) (fit, later)

own_lines_fit : (columns : ℕ) (said : Said) (texts : List (List ℕ))
    → AllByRecursion (λ text. Fits columns (below_line said (mark_text said.mark ++ text))) texts
    → AllByRecursion (Fits columns) (lines_of (flat_map (own_line_runs said) texts))
own_lines_fit columns said [] h = tt
own_lines_fit columns said (text ∷ texts) h = (h.0, own_lines_fit columns said texts h.1)

below_fits : (columns : ℕ) (said : Said)
    → AllByRecursion (λ text. Fits columns (below_line said (mark_text said.mark ++ text))) said.texts
    → AllByRecursion (Fits columns) (lines_of (below_runs columns said))
below_fits columns said h =
    let all : List Run = below_line said (said_text said) in
    let P : Bool → Type 0 = λ b. fits columns all ≡ b → AllByRecursion (Fits columns)
    (lines_of (cond b (all ++ ending ∷ []) (flat_map (own_line_runs said) said.texts))) in
    let cases : (b : Bool) → P b = λ b. elim b as P [
      | true ↦ (λ e. (e, tt))
      | false ↦ (λ e. own_lines_fit columns said said.texts h)
    ] in
    cases (fits columns all) refl

pub rows_fit : (columns : ℕ) (front : List Run) (said : Said) → IsOnLine front → Fits columns front
    → AllByRecursion (λ text. Fits columns (below_line said (mark_text said.mark ++ text))) said.texts
    → AllByRecursion (Fits columns) (lines_of (remarked_runs columns front said))
rows_fit columns front said h fit texts =
    let all : List Run = row_line front said in
    let P : Bool → Type 0 = λ b. fits columns all ≡ b → AllByRecursion (Fits columns)
    (lines_of (cond b (all ++ ending ∷ []) (front ++ (ending ∷ below_runs columns said)))) in
    let cases : (b : Bool) → P b = λ b. elim b as P [
      | true ↦ (λ e. lines_fit columns all [] (on_line front _ h tt) e tt)
      | false ↦ (λ e. lines_fit columns front (below_runs columns said) h fit (below_fits columns said texts))
    ] in
    cases (fits columns all) refl

-- the lines of a header, from one on
filled_fit : (columns : ℕ) (line : List ℕ) (parts : List (List ℕ))
    → Fits columns (styled styles.Remark line ∷ [])
    → AllByRecursion (λ part. Fits columns (styled styles.Remark (codes "# " ++ part) ∷ [])) parts
    → AllByRecursion (Fits columns) (lines_of (filled_runs columns line parts))
filled_fit columns line [] fit h = (fit, tt)
filled_fit columns line (part ∷ parts) fit h =
    let P : Bool → Type 0 = λ b. has_room columns line part ≡ b → AllByRecursion (Fits columns)
    (lines_of (cond b [] (remark_line line)
    ++ filled_runs columns (cond b (longer_line line part) (codes "# " ++ part)) parts)) in
    let cases : (b : Bool) → P b = λ b. elim b as P [
      | true ↦ (λ e. filled_fit columns (longer_line line part) parts e h.1)
      | false ↦ (λ e. (fit, filled_fit columns (codes "# " ++ part) parts h.0 h.1))
    ] in
    cases (has_room columns line part) refl

pub headers_fit : (columns : ℕ) (first : List ℕ) (parts : List (List ℕ))
    → AllByRecursion (λ part. Fits columns (styled styles.Remark (codes "# " ++ part) ∷ [])) (first ∷ parts)
    → AllByRecursion (Fits columns) (lines_of (header_runs columns first parts))
headers_fit columns first parts h = filled_fit columns (codes "# " ++ first) parts h.0 h.1
