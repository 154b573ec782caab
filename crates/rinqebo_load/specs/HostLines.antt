-- The host in what the compiler prints of itself.
use Rattle.std.specs.Prelude.{ℕ, List, Option, None, Some, IsTrue, String, codes, filter_map, is_some, option_and_then, slice_get, string_bytes}
use Rattle.std.specs.Str.Lines.{lines}
use Rattle.std.specs.declared.alloc.Global.{Global}
use Rattle.rinqebo_report.specs.OriginText.{after_prefix}

-- the triple in a line that has the host
abbrev pub host_of_line : List ℕ → Option (List ℕ)
host_of_line line = after_prefix (codes "host: ") line

-- the triple in the first of some lines that has the host
abbrev pub host_in_lines : List (List ℕ) → Option (List ℕ)
host_in_lines texts = slice_get (filter_map host_of_line texts) 0

-- the triple of the host in what the compiler prints of itself
abbrev pub host_in : List ℕ → Option (List ℕ)
host_in printed = host_in_lines (lines printed)

-- the same, if there is such a text
abbrev pub printed_host : Option (String Global) → Option (List ℕ)
printed_host printed = option_and_then (λ text. host_in (string_bytes text)) printed

-- what the compiler prints of itself has the host, if there is such a text
abbrev pub NamesHost : Option (String Global) → Type 0
NamesHost (Some text) = IsTrue (is_some (host_in (string_bytes text)))
NamesHost None = Unit {0}
