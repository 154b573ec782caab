-- How many states the automaton of a glob takes at most, by the text that writes it.
use Rattle.std.specs.Prelude.{ℕ, ◌+◌, ◌==◌, List, if◌then◌else◌}
use Rattle.std.specs.List.{fold}
use Rattle.filter_engine.specs.RegexSizes.{capped}

-- three states for a star, and one for another byte
abbrev pub byte_states : ℕ → ℕ
byte_states byte = if byte == 42 then 3 else 1

abbrev pub with_states : ℕ → ℕ → ℕ
with_states states byte = capped (states + byte_states byte)

-- the states of a glob at most, with sixteen beside its bytes
unfoldable pub glob_size : List ℕ → ℕ
glob_size text = fold with_states 16 text
