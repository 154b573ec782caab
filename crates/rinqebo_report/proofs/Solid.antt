-- Rows and headers say the same for every number of columns.
use Rattle.std.proofs.Common.{◌≡◌, ℕ, zero, suc, Bool, true, false, cond, List, [], ◌∷◌, ◌++◌, codes, filter, flat_map, replicate, refl, sym, ap, ◌∙◌, append_assoc, not}
use Rattle.std.proofs.lemmas.List.{append-nil}
use Rattle.std.proofs.lemmas.List.Elements.{filter-append}
use Rattle.std.proofs.lemmas.Grind.{flat_map-append}
use Rattle.std.proofs.lemmas.Str.{chars-append, chars-nil, IsUtf8-append}
use Rattle.std.specs.Char.{encode_utf8}
use Rattle.std.specs.Str.{chars, IsUtf8}
use Rattle.std.specs.List.{AllByRecursion}
use Rattle.rinqebo_report.specs.Columns.{is_joint, solid, solid_page}
use Rattle.rinqebo_report.specs.Headers.{longer_line, has_room, filled_runs, header_runs}
use Rattle.rinqebo_report.specs.Joined.{joined}
use Rattle.rinqebo_report.specs.Layout.{Said, fits, remark_line, mark_text, mark_style, said_text, row_line, below_line, own_line_runs, below_runs, remarked_runs}
use Rattle.rinqebo_report.specs.Pieces.{Run, styled, repeated, numbered, ending, shown_char, shown_text, painted, page_text}
use Rattle.rinqebo_report.specs.declared.layout.Mark.{Mark}
use Rattle.rinqebo_report.specs.declared.layout.Mark.TheVariants as marks
use Rattle.rinqebo_report.specs.declared.piece.Colour.TheVariants as colours
use Rattle.rinqebo_report.specs.declared.piece.Style.{Style}
use Rattle.rinqebo_report.specs.declared.piece.Style.TheVariants as styles

solid-append : (a b : List ℕ) → solid (a ++ b) ≡ solid a ++ solid b
solid-append a b = filter-append (λ c. not (is_joint c)) a b

pub page-append : (a b : List Run) → solid_page (a ++ b) ≡ solid_page a ++ solid_page b
page-append a b =
    ap solid (flat_map-append (painted colours.Plain) a b)
    ∙ solid-append (page_text colours.Plain a) (page_text colours.Plain b)

-- what a text says as it is shown
abbrev says : List ℕ → List ℕ
says text = solid (shown_text text)

says-append : (a b : List ℕ) → IsUtf8 a → says (a ++ b) ≡ says a ++ says b
says-append a b h =
    ap (λ cs. solid (flat_map shown_char cs)) (chars-append a b h)
    ∙ ap solid (flat_map-append shown_char (chars a) (chars b))
    ∙ solid-append (shown_text a) (shown_text b)

-- blanks say nothing
blanks_say : (n : ℕ) → solid (flat_map shown_char (replicate n 32)) ≡ []
unfolding encode_utf8
blanks_say zero = refl
blanks_say (suc n) = blanks_say n

-- a text behind blanks
behind_blanks : (n : ℕ) (style : Style) (text : List ℕ) (rest : List Run)
    → solid_page (repeated 32 n ∷ styled style text ∷ rest) ≡ says text ++ solid_page rest
behind_blanks n style text rest =
    solid-append (flat_map shown_char (replicate n 32)) (page_text colours.Plain (styled style text ∷ rest))
    ∙ ap (λ t. t ++ solid_page (styled style text ∷ rest)) (blanks_say n)
    ∙ solid-append (shown_text text) (page_text colours.Plain rest)

-- a text on a line of its own
line_says : (style : Style) (text : List ℕ) (rest : List Run)
    → solid_page (styled style text ∷ ending ∷ rest) ≡ says text ++ solid_page rest
line_says style text rest = solid-append (shown_text text) (page_text colours.Plain (ending ∷ rest))

says_nil : says [] ≡ []
says_nil = ap (λ cs. solid (flat_map shown_char cs)) chars-nil

-- a number sign, a comma and blanks say nothing
joint_says : (joint text : List ℕ) → IsUtf8 joint → says joint ≡ [] → says (joint ++ text) ≡ says text
joint_says joint text h e = says-append joint text h ∙ ap (λ t. t ++ says text) e

hash : IsUtf8 (codes "# ")
unfolding encode_utf8
hash = (codes "# ", (refl, refl))

comma : IsUtf8 (codes ", ")
unfolding encode_utf8
comma = (codes ", ", (refl, refl))

blank : IsUtf8 (codes " ")
unfolding encode_utf8
blank = (codes " ", (refl, refl))

hash_says : says (codes "# ") ≡ []
unfolding encode_utf8 chars
hash_says = refl

comma_says : says (codes ", ") ≡ []
unfolding encode_utf8 chars
comma_says = refl

blank_says : says (codes " ") ≡ []
unfolding encode_utf8 chars
blank_says = refl

mark_says : (mark : Mark) (text : List ℕ) → says (mark_text mark ++ text) ≡ says text
mark_says marks.Comment text = joint_says (codes "# ") text hash hash_says
mark_says marks.Bare text = refl

-- texts with commas between them
others_say : (texts : List (List ℕ)) → AllByRecursion IsUtf8 texts
    → says (flat_map (λ text. codes ", " ++ text) texts) ≡ flat_map says texts
others_say [] h = says_nil
others_say (text ∷ texts) h =
    says-append (codes ", " ++ text) (flat_map (λ t. codes ", " ++ t) texts) (IsUtf8-append (codes ", ") text comma h.0)
    ∙ ap (λ t. t ++ says (flat_map (λ t. codes ", " ++ t) texts)) (joint_says (codes ", ") text comma comma_says)
    ∙ ap (λ t. says text ++ t) (others_say texts h.1)

joined_says : (texts : List (List ℕ)) → AllByRecursion IsUtf8 texts
    → says (joined (codes ", ") (λ text. text) texts) ≡ flat_map says texts
joined_says [] h = says_nil
joined_says (text ∷ texts) h =
    says-append text (flat_map (λ t. codes ", " ++ t) texts) h.0
    ∙ ap (λ t. says text ++ t) (others_say texts h.1)

said_says : (said : Said) → AllByRecursion IsUtf8 said.texts → says (said_text said) ≡ flat_map says said.texts
said_says said h =
    mark_says said.mark (joined (codes ", ") (λ text. text) said.texts) ∙ joined_says said.texts h

-- each text on a line of its own
own_say : (said : Said) (texts : List (List ℕ))
    → solid_page (flat_map (own_line_runs said) texts) ≡ flat_map says texts
own_say said [] = refl
own_say said (text ∷ texts) =
    behind_blanks said.indent (mark_style said.mark) (mark_text said.mark ++ text)
    (ending ∷ flat_map (own_line_runs said) texts)
    ∙ ap (λ t. t ++ solid_page (flat_map (own_line_runs said) texts)) (mark_says said.mark text)
    ∙ ap (λ t. says text ++ t) (own_say said texts)

below_says : (columns : ℕ) (said : Said) → AllByRecursion IsUtf8 said.texts
    → solid_page (below_runs columns said) ≡ flat_map says said.texts
below_says columns said h =
    let all : List Run = below_line said (said_text said) in
    let P : Bool → Type 0 = λ b. solid_page (cond b (all ++ ending ∷ []) (flat_map (own_line_runs said) said.texts))
    ≡ flat_map says said.texts in
    let cases : (b : Bool) → P b = λ b. elim b as P [
      | true ↦ behind_blanks said.indent (mark_style said.mark) (said_text said) (ending ∷ [])
          ∙ append-nil (says (said_text said)) ∙ said_says said h
      | false ↦ own_say said said.texts
    ] in
    cases (fits columns all)

row_says : (columns : ℕ) (front : List Run) (said : Said) → AllByRecursion IsUtf8 said.texts
    → solid_page (remarked_runs columns front said) ≡ solid_page front ++ flat_map says said.texts
row_says columns front said h =
    let all : List Run = row_line front said in
    let behind : List Run = repeated 32 said.gap ∷ styled (mark_style said.mark) (said_text said) ∷ [] in
    let P : Bool → Type 0 = λ b. solid_page (cond b (all ++ ending ∷ []) (front ++ (ending ∷ below_runs columns said)))
    ≡ solid_page front ++ flat_map says said.texts in
    let cases : (b : Bool) → P b = λ b. elim b as P [
      | true ↦ page-append all (ending ∷ []) ∙ append-nil (solid_page all) ∙ page-append front behind
          ∙ ap (λ t. solid_page front ++ t)
          (behind_blanks said.gap (mark_style said.mark) (said_text said) [] ∙ append-nil (says (said_text said))
          ∙ said_says said h)
      | false ↦ page-append front (ending ∷ below_runs columns said)
          ∙ ap (λ t. solid_page front ++ t) (below_says columns said h)
    ] in
    cases (fits columns all)

pub rows_say : (columns others : ℕ) (front : List Run) (said : Said) → AllByRecursion IsUtf8 said.texts
    → solid_page (remarked_runs columns front said) ≡ solid_page (remarked_runs others front said)
rows_say columns others front said h = row_says columns front said h ∙ sym (row_says others front said h)

-- the lines of a header, from one on
filled_says : (columns : ℕ) (line : List ℕ) (parts : List (List ℕ)) → IsUtf8 line → AllByRecursion IsUtf8 parts
    → solid_page (filled_runs columns line parts) ≡ says line ++ flat_map says parts
filled_says columns line [] h k = line_says styles.Remark line []
filled_says columns line (part ∷ parts) h k =
    let all : List ℕ = says line ++ (says part ++ flat_map says parts) in
    let P : Bool → Type 0 = λ b. solid_page (cond b [] (remark_line line)
    ++ filled_runs columns (cond b (longer_line line part) (codes "# " ++ part)) parts) ≡ all in
    let cases : (b : Bool) → P b = λ b. elim b as P [
      | true ↦ filled_says columns (longer_line line part) parts
          (IsUtf8-append line (codes " " ++ part) h (IsUtf8-append (codes " ") part blank k.0)) k.1
          ∙ ap (λ t. t ++ flat_map says parts) (says-append line (codes " " ++ part) h
          ∙ ap (λ t. says line ++ t) (joint_says (codes " ") part blank blank_says))
          ∙ append_assoc (says line) (says part) (flat_map says parts)
      | false ↦ line_says styles.Remark line (filled_runs columns (codes "# " ++ part) parts)
          ∙ ap (λ t. says line ++ t)
          (filled_says columns (codes "# " ++ part) parts (IsUtf8-append (codes "# ") part hash k.0) k.1
          ∙ ap (λ t. t ++ flat_map says parts) (joint_says (codes "# ") part hash hash_says))
    ] in
    cases (has_room columns line part)

pub headers_say : (columns others : ℕ) (first : List ℕ) (parts : List (List ℕ))
    → IsUtf8 first → AllByRecursion IsUtf8 parts
    → solid_page (header_runs columns first parts) ≡ solid_page (header_runs others first parts)
headers_say columns others first parts h k =
    let line : List ℕ = codes "# " ++ first in
    let is : IsUtf8 line = IsUtf8-append (codes "# ") first hash h in
    filled_says columns line parts is k ∙ sym (filled_says others line parts is k)
