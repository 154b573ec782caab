-- Scripts as plain values: what contracts see of their configurations.
use Rattle.std.specs.Prelude.{◌≡◌, ℕ, List, map, Bool, Option, string_bytes}
use Rattle.nextest_elements.specs.declared.leak_timeout.LeakTimeout.{LeakTimeout}
use Rattle.nextest_tree.specs.Node.{Node}
use Rattle.nextest_tree.specs.Reads.{InTable}
use Rattle.nextest_scripts.specs.EnvMap.{env_view}
use Rattle.nextest_scripts.specs.SetupScript.{IsSetupScript}
use Rattle.nextest_scripts.specs.WrapperScript.{IsWrapperScript}
use Rattle.nextest_scripts.specs.declared.command.ScriptCommand.{ScriptCommand}
use Rattle.nextest_scripts.specs.declared.command.ScriptCommandRelativeTo.{ScriptCommandRelativeTo}
use Rattle.nextest_scripts.specs.declared.setup_script.SetupScriptConfig.{SetupScriptConfig}
use Rattle.nextest_scripts.specs.declared.setup_script.SetupScriptJunitConfig.{SetupScriptJunitConfig}
use Rattle.nextest_scripts.specs.declared.setup_timeout.SetupScriptSlowTimeout.{SetupScriptSlowTimeout}
use Rattle.nextest_scripts.specs.declared.wrapper_script.WrapperScriptConfig.{WrapperScriptConfig}
use Rattle.nextest_scripts.specs.declared.wrapper_script.WrapperScriptTargetRunner.{WrapperScriptTargetRunner}

-- A command: its program, its arguments, its variables, and what the program is relative to.
pub record CommandText : Type 0 where
  pub program : List ℕ
  pub args : List (List ℕ)
  pub env : List (List ℕ × List ℕ)
  pub relative_to : ScriptCommandRelativeTo

-- A setup script.
pub record SetupScriptText : Type 0 where
  pub command : CommandText
  pub slow_timeout : Option SetupScriptSlowTimeout
  pub leak_timeout : Option LeakTimeout
  pub capture_stdout : Bool
  pub capture_stderr : Bool
  pub junit : SetupScriptJunitConfig

-- A wrapper script.
pub record WrapperScriptText : Type 0 where
  pub command : CommandText
  pub target_runner : WrapperScriptTargetRunner

-- What contracts see of a command.
abbrev pub command_view : ScriptCommand → CommandText
command_view c = record {
  program = string_bytes c.program;
  args = map string_bytes c.args.items;
  env = env_view c.env;
  relative_to = c.relative_to;
}

-- What contracts see of a setup script.
abbrev pub setup_script_view : SetupScriptConfig → SetupScriptText
setup_script_view s = record {
  command = command_view s.command;
  slow_timeout = s.slow_timeout;
  leak_timeout = s.leak_timeout;
  capture_stdout = s.capture_stdout;
  capture_stderr = s.capture_stderr;
  junit = s.junit;
}

-- What contracts see of a wrapper script.
abbrev pub wrapper_script_view : WrapperScriptConfig → WrapperScriptText
wrapper_script_view w =
    record { command = command_view w.command; target_runner = w.target_runner }

-- A node spells a setup script.
pub record SpellsSetupScript (n : Node) (text : SetupScriptText) : Type 0 where
  pub config : SetupScriptConfig
  pub spells : InTable IsSetupScript n config
  pub same : setup_script_view config ≡ text

-- A node spells a wrapper script.
pub record SpellsWrapperScript (n : Node) (text : WrapperScriptText) : Type 0 where
  pub config : WrapperScriptConfig
  pub spells : InTable IsWrapperScript n config
  pub same : wrapper_script_view config ≡ text
