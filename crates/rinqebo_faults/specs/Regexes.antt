-- What is wrong with regular expressions, where that is plain.
use Rattle.std.specs.Prelude.{ℕ, ◌+◌, ◌-◌, ◌==◌, nat_lt, min, true, false, not, ◌&&◌, ◌||◌, List, [], ◌∷◌, ◌++◌, codes, Option, None, Some, Result, Ok, Err, if◌then◌else◌}
use Rattle.std.specs.Char.{encode_utf8}
use Rattle.std.specs.Str.{chars}
use Rattle.rinqebo_faults.specs.declared.regex_words.Flaw.{Flaw}
use Rattle.rinqebo_faults.specs.declared.regex_words.Flaw.TheVariants as flaws
use Rattle.rinqebo_faults.specs.declared.regex_words.Scan.{Scan}
use Rattle.rinqebo_faults.specs.TomlLines.{greatest}

-- nothing is read yet
abbrev pub start : Scan
start =
    record { depth = 0; in_class = false; is_escaped = false; last = None; from = None }

-- a range of a class ends before it starts
abbrev pub ranged : Option ℕ → ℕ → Scan → Result Scan Flaw
ranged None c next = Ok next
ranged (Some from) c next =
    if next.in_class && nat_lt c from then Err (flaws.Range from c) else Ok next

-- a character of a class is read
unfoldable pub within : Scan → ℕ → Result Scan Flaw
within scan c =
    if c == 45 then Ok (record scan { last = None; from = scan.last })
    else ranged scan.from c (record scan { in_class = not (c == 93); last = Some c; from = None })

-- a parenthesis closes a group, if one is open
abbrev pub closed : Scan → Result Scan Flaw
closed scan =
    if scan.depth == 0 then Err flaws.StrayClose
    else Ok (record scan { depth = scan.depth - 1 })

-- a character outside classes is read
unfoldable pub without : Scan → ℕ → Result Scan Flaw
without scan c =
    if c == 91 then Ok (record scan { in_class = true; last = None; from = None })
    else if c == 40 then Ok (record scan { depth = min (scan.depth + 1) greatest })
    else if c == 41 then closed scan
    else Ok scan

-- a character is read: behind a backslash it stands for itself
unfoldable pub read : Scan → ℕ → Result Scan Flaw
read scan c =
    if scan.is_escaped || c == 92
    then Ok (record scan { is_escaped = not scan.is_escaped; last = None; from = None })
    else if scan.in_class then within scan c
    else without scan c

-- what is wrong at the end: a class or a group is open
unfoldable pub end_flaw : Scan → Option Flaw
end_flaw scan =
    if scan.in_class then Some flaws.OpenClass
    else if nat_lt 0 scan.depth then Some flaws.OpenGroup
    else None

-- what is wrong behind a character: the flaw there, or else in the rest
abbrev pub flaw_behind : (Scan → Option Flaw) → Result Scan Flaw → Option Flaw
flaw_behind rest (Ok next) = rest next
flaw_behind rest (Err flaw) = Some flaw

-- what is wrong in the rest of an expression
abbrev pub flaw_from : List ℕ → Scan → Option Flaw
flaw_from [] scan = end_flaw scan
flaw_from (c ∷ cs) scan = flaw_behind (flaw_from cs) (read scan c)

-- what is wrong with a regular expression, where that is plain
abbrev pub flaw_of : List ℕ → Option Flaw
flaw_of pattern = flaw_from (chars pattern) start

-- what is wrong with a regular expression that has a flaw, in words
abbrev pub flaw_message : List ℕ → Option Flaw → List ℕ
flaw_message pattern None = codes "`" ++ (pattern ++ codes "` is not a regular expression")
flaw_message pattern (Some flaws.OpenGroup) =
    codes "`" ++ (pattern ++ codes "` has a group that is not closed")
flaw_message pattern (Some flaws.StrayClose) =
    codes "`" ++ (pattern ++ codes "` has a `)` that closes no group")
flaw_message pattern (Some flaws.OpenClass) =
    codes "`" ++ (pattern ++ codes "` has a class that is not closed")
flaw_message pattern (Some (flaws.Range from to)) =
    codes "the range `" ++ (encode_utf8 from ++ (codes "-" ++ (encode_utf8 to
    ++ codes "` ends before it starts")))

-- what is expected in place of a regular expression that is refused
abbrev pub flaw_expected : Option Flaw → List ℕ
flaw_expected None = codes "a regular expression"
flaw_expected (Some flaws.OpenGroup) = codes "a regular expression with a closing `)`"
flaw_expected (Some flaws.StrayClose) = codes "a regular expression with a `(` for each `)`"
flaw_expected (Some flaws.OpenClass) = codes "a regular expression with a closing `]`"
flaw_expected (Some (flaws.Range from to)) = codes "a regular expression whose ranges ascend"
