-- The variables that a script sets, as a table of texts whose keys are judged.
use Rattle.std.specs.Prelude.{ℕ, List, map, codes, Option, Some, None, string_bytes, if◌then◌else◌}
use Rattle.nextest_tree.specs.Leaf.{a_text, IsText}
use Rattle.nextest_tree.specs.Node.{Node}
use Rattle.nextest_tree.specs.Reads.{IsMap, InTable}
use Rattle.nextest_tree.specs.Schema.{FaultCause, bad_value, Schema, map_of}
use Rattle.nextest_scripts.specs.EnvKey.{is_env_var_key}
use Rattle.nextest_scripts.specs.declared.env_map.ScriptCommandEnvMap.{ScriptCommandEnvMap}

-- What a refusal says was expected.
unfoldable pub env_key_expected : List ℕ
env_key_expected = codes "the key of an environment variable"

-- A key that is not a key of an environment variable is refused.
abbrev pub env_key_cause : List ℕ → Option FaultCause
env_key_cause key = if is_env_var_key key then None else Some (bad_value key env_key_expected)

-- A table of texts under such keys.
unfoldable pub an_env_map : Schema
an_env_map = map_of env_key_cause a_text

-- The keys of the variables, each with its text, in the order of their bytes.
abbrev pub env_view : ScriptCommandEnvMap → List (List ℕ × List ℕ)
env_view env = map (λ e. (string_bytes e.0, string_bytes e.1)) env.0.entries

-- A table spells one variable for each of its entries.
abbrev pub IsEnvMap : Node → ScriptCommandEnvMap → Type 0
IsEnvMap n env = InTable (λ es variables. IsMap string_bytes IsText es variables) n env.0.entries
