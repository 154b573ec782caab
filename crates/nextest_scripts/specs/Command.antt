-- Commands of scripts.
use Rattle.std.specs.Prelude.{◌≡◌, ℕ, List, [], ◌∷◌, Option, Some, None, Result, codes}
use Rattle.nextest_tree.specs.declared.key.Key.TheVariants as keys
use Rattle.nextest_tree.specs.Key.{key_text}
use Rattle.nextest_tree.specs.Leaf.{value, name_at, leaf_or}
use Rattle.nextest_tree.specs.Node.{Node, table, Entries, get}
use Rattle.nextest_tree.specs.Reads.{IsOptional}
use Rattle.nextest_tree.specs.Schema.{FaultCause, Schema, Fields, no_more, may, must, closed_struct}
use Rattle.nextest_scripts.specs.CommandLine.{a_command_line, IsCommandLine}
use Rattle.nextest_scripts.specs.EnvMap.{an_env_map, env_view, IsEnvMap}
use Rattle.nextest_scripts.specs.Paths.{joined_path}
use Rattle.nextest_scripts.specs.declared.command.ScriptCommand.{ScriptCommand}
use Rattle.nextest_scripts.specs.declared.command.ScriptCommandRelativeTo.{ScriptCommandRelativeTo}
use Rattle.nextest_scripts.specs.declared.command.ScriptCommandRelativeTo.TheVariants as directories
use Rattle.nextest_scripts.specs.declared.command_line.CommandLine.{CommandLine}
use Rattle.nextest_scripts.specs.declared.env_map.ScriptCommandEnvMap.{ScriptCommandEnvMap}

-- What a program may be relative to, as it is written.
unfoldable pub relative_to_names : List (List ℕ × ScriptCommandRelativeTo)
relative_to_names =
    (codes "none", directories.None)
    ∷ (codes "workspace-root", directories.WorkspaceRoot)
    ∷ (codes "target", directories.Target)
    ∷ []

-- What a refusal says was expected.
unfoldable pub relative_to_expected : List ℕ
relative_to_expected = codes "`none`, `workspace-root`, `target`"

-- What a program is relative to, as a node spells it.
abbrev pub relative_to_at : Node → Result ScriptCommandRelativeTo FaultCause
relative_to_at = name_at relative_to_names relative_to_expected

-- One of these names.
unfoldable pub a_relative_to : Schema
a_relative_to = value relative_to_at

-- The fields of a command's table.
abbrev pub command_fields : Fields
command_fields =
    must keys.CommandLine a_command_line
    (may keys.Env an_env_map
    (may keys.RelativeTo a_relative_to
    no_more))

-- A command: a line, a list of texts, or a table, which refuses its other keys.
unfoldable pub a_command : Schema
a_command = closed_struct a_command_line command_fields

-- The program of a command, with its arguments.
abbrev pub line_of : ScriptCommand → CommandLine
line_of command = record { program = command.program; args = command.args }

-- The variables of the table that is at a key, none where there is no table.
abbrev pub IsEnvAt : Option Node → ScriptCommandEnvMap → Type 0
IsEnvAt None env = env_view env ≡ []
IsEnvAt (Some n) env = IsEnvMap n env

-- A command's table spells its line, its variables, and what its program is relative to.
pub record IsCommandTable (es : Entries) (command : ScriptCommand) : Type 0 where
  pub command_line : IsOptional IsCommandLine (get (key_text keys.CommandLine) es)
      (Some (line_of command))
  pub env : IsEnvAt (get (key_text keys.Env) es) command.env
  pub relative_to : command.relative_to
      ≡ leaf_or directories.None relative_to_at (get (key_text keys.RelativeTo) es)

-- A line or a list has no variables, and its program is relative to nothing.
pub record IsPlainCommand (n : Node) (command : ScriptCommand) : Type 0 where
  pub command_line : IsCommandLine n (line_of command)
  pub env : env_view command.env ≡ []
  pub relative_to : command.relative_to ≡ directories.None

-- A node spells a command.
abbrev pub IsCommand : Node → ScriptCommand → Type 0
IsCommand (table es) command = IsCommandTable es command
IsCommand n command = IsPlainCommand n command

-- The path of a command's program: as it is written, or joined to the directory that it is relative
-- to.
abbrev pub program_path : ScriptCommandRelativeTo → (program workspace_root target_dir : List ℕ)
    → List ℕ
program_path directories.None program root target = program
program_path directories.WorkspaceRoot program root target = joined_path root program
program_path directories.Target program root target = joined_path target program
