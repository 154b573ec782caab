-- The line of the right side: each option of the right side in place of the one that it replaces.
use Rattle.std.specs.List.{filter, flat_map, list_any}
use Rattle.std.specs.Prelude.{◌++◌, ◌∷◌, ℕ, Bool, not, List, [], codes, if◌then◌else◌, is_some, map}
use Rattle.std.specs.Str.{bytes_eq}
use Rattle.clap.specs.Walk.{Row}
use Rattle.rinqebo_request.specs.Lines.{Line, has, value_at}

-- an option of the right side, and the option or the word that it replaces
pub record Replacement : Type 0 where
  pub own : List ℕ
  pub replaced : List ℕ

-- the options of the right side: `--to-X` replaces `--X`, and `--to-list` replaces LIST
abbrev pub replacements : List Replacement
replacements =
    record { own = codes "to-profile"; replaced = codes "profile" }
    ∷ record { own = codes "to-mode"; replaced = codes "mode" }
    ∷ record { own = codes "to-root"; replaced = codes "root" }
    ∷ record { own = codes "to-config-file"; replaced = codes "config-file" }
    ∷ record { own = codes "to-tool-config-file"; replaced = codes "tool-config-file" }
    ∷ record {
      own = codes "to-organisation-config-file";
      replaced = codes "organisation-config-file";
    }
    ∷ record { own = codes "to-host"; replaced = codes "host" }
    ∷ record { own = codes "to-target"; replaced = codes "target" }
    ∷ record { own = codes "to-host-cfg"; replaced = codes "host-cfg" }
    ∷ record { own = codes "to-target-cfg"; replaced = codes "target-cfg" }
    ∷ record { own = codes "to-metadata"; replaced = codes "metadata" }
    ∷ record { own = codes "to-list"; replaced = codes "LIST" } ∷ []

-- the names of the options of the right side
abbrev pub right_names : List (List ℕ)
right_names = map (λ option. option.own) replacements

-- whether a line has an option of the right side
abbrev pub has_right_side : Line → Bool
has_right_side line = list_any (λ name. has name line) right_names

-- whether a line has a value for an option
abbrev pub is_given : List ℕ → Line → Bool
is_given name line = is_some (value_at name line)

-- whether a row is that of an option or a word
abbrev pub is_of : List ℕ → Row → Bool
is_of name row = bytes_eq row.id name

-- a row as that of another option or word
abbrev pub renamed : List ℕ → Row → Row
renamed name row = record row { id = name }

-- what a line has for an option of the right side, as what it has for the one that this replaces
abbrev pub replacing : Line → Replacement → Line
replacing line option =
    if is_given option.own line
    then map (renamed option.replaced) (filter (is_of option.own) line) else []

-- a line without an option
abbrev pub without : List ℕ → Line → Line
without name line = filter (λ row. not (is_of name row)) line

-- The line of the right side: it has for each option what its own one has, if that is given, and
-- else what the line has. A host of its own goes without a compiler's output, which names one.
abbrev pub right_line : Line → Line
right_line line =
    flat_map (replacing line) replacements
    ++ (if is_given (codes "to-host") line then without (codes "rustc-version") line else line)
