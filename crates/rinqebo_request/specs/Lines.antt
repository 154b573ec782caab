-- What a command line has for the words and options of its command, by their ids.
use Rattle.std.specs.Prelude.{◌≡◌, ℕ, Bool, false, true, List, [], None, Option, Some, codes, is_some, unwrap_or}
use Rattle.clap.specs.Matches.{found_of}
use Rattle.clap.specs.Walk.{Row, all_of, first_of, one_of, rows_of}
use Rattle.clap.specs.declared.parser.matches.ArgMatches.{ArgMatches}

-- a command line behind the name of its command
abbrev pub Line : Type 0
Line = List Row

-- the line that was read
abbrev pub line_of : ArgMatches → Line
line_of matches = rows_of (found_of matches)

-- the value of an option or a word, or the first one, if there is one
abbrev pub value_at : List ℕ → Line → Option (List ℕ)
value_at id line = first_of id line

-- all values of an option or a word, in their order
abbrev pub values_at : List ℕ → Line → List (List ℕ)
values_at id line = unwrap_or (all_of id line) []

-- whether a line has an option or a word
abbrev pub has : List ℕ → Line → Bool
has id line = is_some (all_of id line)

-- A flag is on, if its value is `true`, or off, if it is `false` or there is none.
pub record IsFlag (id : List ℕ) (line : Line) (is_on : Bool) : Type 0 where
  pub absent : one_of id line ≡ None → is_on ≡ false
  pub on : one_of id line ≡ Some (codes "true") → is_on ≡ true
  pub off : one_of id line ≡ Some (codes "false") → is_on ≡ false
