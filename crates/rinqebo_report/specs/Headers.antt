-- Headers of pages: lines of parts, as many on each line as fit.
use Rattle.std.specs.Prelude.{ℕ, Bool, List, [], ◌∷◌, ◌++◌, Option, None, Some, option_map, unwrap_or, codes, string_bytes, if◌then◌else◌}
use Rattle.rinqebo_report.specs.declared.piece.Style.TheVariants as styles
use Rattle.rinqebo_report.specs.declared.report.Asked.{Asked}
use Rattle.rinqebo_report.specs.declared.report.BuiltFor.{BuiltFor}
use Rattle.rinqebo_report.specs.declared.report.BuiltFor.TheVariants as platforms
use Rattle.rinqebo_report.specs.declared.report.RunMode.{RunMode}
use Rattle.rinqebo_report.specs.declared.report.RunMode.TheVariants as modes
use Rattle.rinqebo_report.specs.declared.report.TestRows.{TestRows}
use Rattle.rinqebo_report.specs.Joined.{joined}
use Rattle.rinqebo_report.specs.Layout.{fits, remark_line}
use Rattle.rinqebo_report.specs.Pieces.{Run, styled}

-- a line of a header with one more part
abbrev pub longer_line : List ℕ → List ℕ → List ℕ
longer_line line part = line ++ (codes " " ++ part)

-- whether a part of a header fits on the line before it
abbrev pub has_room : ℕ → List ℕ → List ℕ → Bool
has_room columns line part = fits columns (styled styles.Remark (longer_line line part) ∷ [])

-- the line that has a part of a header: that before it if there is room, and else one of its own
abbrev pub line_with : ℕ → List ℕ → List ℕ → List ℕ
line_with columns line part =
    if has_room columns line part then longer_line line part else codes "# " ++ part

-- the line before a part of a header, if it ends there
abbrev pub ended_runs : ℕ → List ℕ → List ℕ → List Run
ended_runs columns line part = if has_room columns line part then [] else remark_line line

-- the lines of a header, from the line that is begun
abbrev pub filled_runs : ℕ → List ℕ → List (List ℕ) → List Run
filled_runs columns line [] = remark_line line
filled_runs columns line (part ∷ parts) =
    ended_runs columns line part ++ filled_runs columns (line_with columns line part) parts

-- the lines of a header: each begins with a number sign, and has as many parts as fit
abbrev pub header_runs : ℕ → List ℕ → List (List ℕ) → List Run
header_runs columns first others = filled_runs columns (codes "# " ++ first) others

-- the word of a mode
abbrev pub mode_word : RunMode → List ℕ
mode_word modes.Test = codes "test"
mode_word modes.Benchmark = codes "benchmark"

-- the word of a platform
abbrev pub platform_word : BuiltFor → List ℕ
platform_word platforms.Host = codes "host"
platform_word platforms.Target = codes "target"

-- the triple of the host, and whether it is only assumed
abbrev pub host_text : Asked → List ℕ
host_text asked =
    string_bytes asked.host ++ (if asked.assumes_host then codes " (assumed)" else [])

-- the triple of a platform: that of the host if there is no target
abbrev pub triple_of : Asked → BuiltFor → List ℕ
triple_of asked platforms.Host = host_text asked
triple_of asked platforms.Target =
    unwrap_or (option_map string_bytes asked.target) (host_text asked)

-- the profiles, the nearest first: a part of a header
abbrev pub profiles_part : Asked → List ℕ
profiles_part asked =
    codes "profile " ++ (joined (codes " < ") string_bytes asked.chain.items ++ codes ",")

-- the mode: a part of a header
abbrev pub mode_part : Asked → List ℕ
mode_part asked = mode_word asked.mode ++ codes ","

-- the names of a test: the first part of a header
abbrev pub names_part : TestRows → List ℕ
names_part test =
    string_bytes test.binary ++ (codes " " ++ (string_bytes test.name ++ codes ","))

-- the platform that a test runs on: the last part of a header
abbrev pub platform_part : Asked → TestRows → List ℕ
platform_part asked test =
    platform_word test.platform ++ (codes " " ++ triple_of asked test.platform)

-- the triples of a build, the last parts of a header: that of the host alone if there is no target
abbrev pub build_parts : List ℕ → Option (List ℕ) → List (List ℕ)
build_parts host None = host ∷ []
build_parts host (Some target) =
    (codes "host " ++ (host ++ codes ",")) ∷ (codes "target " ++ target) ∷ []

-- the header of a test: the test, the profiles, the mode, and the platform
abbrev pub test_header_runs : ℕ → Asked → TestRows → List Run
test_header_runs columns asked test =
    header_runs columns (names_part test)
    (profiles_part asked ∷ mode_part asked ∷ platform_part asked test ∷ [])

-- the header of a list: the profiles, the mode, and the platforms
abbrev pub list_head_runs : ℕ → Asked → List Run
list_head_runs columns asked =
    header_runs columns (profiles_part asked)
    (mode_part asked ∷ build_parts (host_text asked) (option_map string_bytes asked.target))
