-- What the entries of an index have to do with paths.
use Rattle.std.specs.Prelude.{ℕ, Bool, true, false, if◌then◌else◌, List, [], ◌∷◌}
use Rattle.std.specs.Str.{bytes_eq}
use Rattle.toml_parser.specs.Reading.{path_view}
use Rattle.nextest_places.specs.declared.entry.Aim.{Aim}
use Rattle.nextest_places.specs.declared.entry.Aim.TheVariants.{Elsewhere, Brings}
use Rattle.nextest_places.specs.declared.entry.Entry.{Entry}
use Rattle.nextest_places.specs.declared.entry.Kind.{Kind}
use Rattle.nextest_places.specs.declared.entry.Kind.TheVariants.{Pair, Table, Element}
use Rattle.nextest_places.specs.declared.place.Lines.{Lines}
use Rattle.nextest_places.specs.declared.step.Step.{Step}
use Rattle.nextest_places.specs.declared.step.Step.TheVariants.{Key, Position}
use Rattle.nextest_places.specs.Marks.{Mark, State, missing, never, seen, turn}

-- what a key's end has to do with a path that goes on by a key
abbrev pub aim_at_key : Kind → Aim
aim_at_key Pair = Brings
aim_at_key _ = Elsewhere

-- what an expression has to do with a path of keys
abbrev pub aim_along : Kind → List (List ℕ) → List Step → Aim
aim_along kind parts [] = Brings
aim_along kind [] (Key k ∷ path) = aim_at_key kind
aim_along kind (part ∷ parts) (Key k ∷ path) =
    if bytes_eq k.now part then aim_along kind parts path else Elsewhere
aim_along kind parts (Position i ∷ path) = Elsewhere

-- What some entries have to do with a path that is not there before them: the lines of the one that
-- defines its value, or how far the path is behind them.
pub data Outcome : Type 0 where
  found : Lines → Outcome
  waits : List Mark → Outcome

abbrev pub outcome_of : Lines → List Mark → State → Outcome
outcome_of lines ms seen = found lines
outcome_of lines ms never = waits ms
outcome_of lines ms (missing more) = waits more

abbrev pub outcome_behind : Entry → Outcome → Outcome
outcome_behind entry (found lines) = found lines
outcome_behind entry (waits ms) =
    outcome_of entry.lines ms (turn entry.kind (path_view entry.parts.items) ms)

abbrev pub scan : List Entry → Outcome → Outcome
scan [] outcome = outcome
scan (entry ∷ entries) outcome = scan entries (outcome_behind entry outcome)

-- what an expression is, by whether it is a header, and one in double brackets
abbrev pub kind_in : Bool → Bool → Kind
kind_in false is_element = Pair
kind_in true false = Table
kind_in true true = Element

-- nothing is found by now
abbrev pub IsWaiting : Outcome → Type 0
IsWaiting (found lines) = ⊥
IsWaiting (waits ms) = Unit {0}
