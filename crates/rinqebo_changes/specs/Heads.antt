-- The first lines of the page of a diff: what is requested of each side, and its file.
use Rattle.std.specs.Prelude.{ℕ, List, [], ◌∷◌, ◌++◌, option_map, flat_map, length, map, ◌-◌, codes, bytes_eq, string_bytes, if◌then◌else◌}
use Rattle.rinqebo_report.specs.declared.piece.Style.TheVariants as styles
use Rattle.rinqebo_report.specs.declared.report.Asked.{Asked}
use Rattle.rinqebo_report.specs.Headers.{build_parts, header_runs, host_text, mode_part, profiles_part}
use Rattle.rinqebo_report.specs.Layout.{fits, remark_line}
use Rattle.rinqebo_report.specs.OriginText.{path_at}
use Rattle.rinqebo_report.specs.Pieces.{Run, styled}
use Rattle.rinqebo_changes.specs.declared.diff.Diff.{Diff}
use Rattle.rinqebo_changes.specs.declared.diff.Side.{Side}
use Rattle.rinqebo_changes.specs.declared.head.Head.{Head}

-- The parts of a side's header.
pub record Parts : Type 0 where
  pub first : List ℕ
  pub others : List (List ℕ)

-- the parts of a side, as code holds them
abbrev pub head_view : Head → Parts
head_view head = record {
  first = string_bytes head.first;
  others = map string_bytes head.others.items;
}

-- the parts behind the profiles of a side: its mode, and the triples of its build
abbrev pub other_parts : Asked → List (List ℕ)
other_parts asked =
    mode_part asked ∷ build_parts (host_text asked) (option_map string_bytes asked.target)

-- the profiles, the mode and the platforms of a side
abbrev pub asked_parts : Asked → Parts
asked_parts asked = record { first = profiles_part asked; others = other_parts asked }

-- the highest file of a side, or the defaults
abbrev pub file_text : Side → List ℕ
file_text side =
    path_at (string_bytes side.root) side.sources.items (length side.sources.items - 1)

abbrev pub file_parts : Side → Parts
file_parts side = record { first = file_text side; others = [] }

-- parts as one text
abbrev pub one_text : Parts → List ℕ
one_text parts = parts.first ++ flat_map (λ part. codes " " ++ part) parts.others

-- lines of parts, as many on each as fit, behind a word
abbrev pub side_runs : ℕ → List ℕ → Parts → List Run
side_runs columns word parts = header_runs columns (word ++ parts.first) parts.others

-- the headers of both sides, on one line
abbrev pub both_text : Parts → Parts → List ℕ
both_text from to = codes "# from " ++ (one_text from ++ (codes "  to " ++ one_text to))

-- the headers of both sides: on one line if they fit, and else on lines of their own
abbrev pub apart_runs : ℕ → Parts → Parts → List Run
apart_runs columns from to =
    if fits columns (styled styles.Remark (both_text from to) ∷ [])
    then remark_line (both_text from to)
    else side_runs columns (codes "from ") from ++ side_runs columns (codes "to ") to

-- the header that both sides have, or else that of each
abbrev pub both_runs : ℕ → Parts → Parts → List Run
both_runs columns from to =
    if bytes_eq (one_text from) (one_text to) then side_runs columns [] from
    else apart_runs columns from to

-- the profiles, modes and platforms of the two sides, and their files
abbrev pub head_runs : ℕ → Diff → List Run
head_runs columns diff =
    both_runs columns (asked_parts diff.from.asked) (asked_parts diff.to.asked)
    ++ both_runs columns (file_parts diff.from) (file_parts diff.to)
