-- Scripts and groups as JSON.
use Rattle.std.specs.Prelude.{ℕ, List, Option, None, Some, codes, fold, option_map}
use Rattle.nextest_elements.specs.declared.test_group.TestGroupConfig.{TestGroupConfig}
use Rattle.nextest_scripts.specs.Command.{program_path}
use Rattle.nextest_scripts.specs.ScriptTexts.{CommandText, SetupScriptText, WrapperScriptText}
use Rattle.nextest_scripts.specs.declared.command.ScriptCommandRelativeTo.{ScriptCommandRelativeTo}
use Rattle.nextest_scripts.specs.declared.command.ScriptCommandRelativeTo.TheVariants as relative
use Rattle.nextest_scripts.specs.declared.setup_script.SetupScriptJunitConfig.{SetupScriptJunitConfig}
use Rattle.nextest_scripts.specs.declared.wrapper_script.WrapperScriptTargetRunner.{WrapperScriptTargetRunner}
use Rattle.nextest_scripts.specs.declared.wrapper_script.WrapperScriptTargetRunner.TheVariants as runners
use Rattle.nextest_tables.specs.Written.{Name}
use Rattle.rinqebo_objects.specs.Enabling.{test_data}
use Rattle.rinqebo_objects.specs.Used.{Used}
use Rattle.rinqebo_objects.specs.Values.{leak_data, optional_data, slow_data, threads_data}
use Rattle.rinqebo_objects.specs.declared.scripts.Directories.{Directories as Directories'}
use Rattle.rinqebo_report.specs.Documents.{list_data}
use Rattle.serde_json.specs.Data.{Data, boolean, string, object, Members, no_members, member, put}

-- the word for what a program is relative to
abbrev pub relative_word : ScriptCommandRelativeTo → List ℕ
relative_word relative.None = codes "none"
relative_word relative.WorkspaceRoot = codes "workspace-root"
relative_word relative.Target = codes "target"

-- The directories that programs are relative to: the root of the workspace, and the target directory.
pub record Directories : Type 0 where
  pub root : List ℕ
  pub target : List ℕ

-- what contracts see of directories, if they are given
abbrev pub directories_view : Option Directories' → Option Directories
directories_view given =
    option_map (λ (d : Directories'). record { root = d.root.now; target = d.target.now }) given

-- the program of a command: joined to the directory that it is relative to, where the directories are
-- given, and else as it is written
abbrev pub program_in : Option Directories → CommandText → List ℕ
program_in None command = command.program
program_in (Some directories) command =
    program_path command.relative_to command.program directories.root directories.target

-- members, with a variable
abbrev pub with_variable : Members → List ℕ × List ℕ → Members
with_variable members variable = put variable.0 (string variable.1) members

-- variables by their keys
abbrev pub variables_data : List (List ℕ × List ℕ) → Data
variables_data variables = object (fold with_variable no_members variables)

-- a command
abbrev pub command_data : Option Directories → CommandText → Data
command_data directories command =
    object (member (codes "args") (list_data string command.args)
    (member (codes "env") (variables_data command.env)
    (member (codes "program") (string (program_in directories command))
    (member (codes "relative-to") (string (relative_word command.relative_to)) no_members))))

-- what a report keeps of a setup script
abbrev pub stored_data : SetupScriptJunitConfig → Data
stored_data stored =
    object (member (codes "store-failure-output") (boolean stored.store_failure_output)
    (member (codes "store-success-output") (boolean stored.store_success_output) no_members))

-- the tests of a list that enable the setup script of an id; null without a list
abbrev pub enabling_data : Option Used → Name → Data
enabling_data used id =
    optional_data (λ (used : Used). list_data test_data (used.enabling id)) used

-- a setup script, with the tests of a list that enable it
abbrev pub setup_script_data : Option Directories → Option Used → Name × SetupScriptText → Data
setup_script_data directories used entry =
    object (member (codes "capture-stderr") (boolean entry.1.capture_stderr)
    (member (codes "capture-stdout") (boolean entry.1.capture_stdout)
    (member (codes "command") (command_data directories entry.1.command)
    (member (codes "id") (string entry.0)
    (member (codes "junit") (stored_data entry.1.junit)
    (member (codes "leak-timeout") (optional_data leak_data entry.1.leak_timeout)
    (member (codes "slow-timeout") (optional_data slow_data entry.1.slow_timeout)
    (member (codes "tests") (enabling_data used entry.0)
    no_members))))))))

-- the word for what a wrapper makes of a target runner
abbrev pub runner_word : WrapperScriptTargetRunner → List ℕ
runner_word runners.Ignore = codes "ignore"
runner_word runners.OverridesWrapper = codes "overrides-wrapper"
runner_word runners.WithinWrapper = codes "within-wrapper"
runner_word runners.AroundWrapper = codes "around-wrapper"

-- a wrapper script
abbrev pub wrapper_script_data : Option Directories → List ℕ × WrapperScriptText → Data
wrapper_script_data directories entry =
    object (member (codes "command") (command_data directories entry.1.command)
    (member (codes "id") (string entry.0)
    (member (codes "target-runner") (string (runner_word entry.1.target_runner)) no_members)))

-- a test group
abbrev pub group_data : Name × Option TestGroupConfig → Data
group_data entry =
    object (member (codes "max-threads")
    (optional_data (λ (config : TestGroupConfig). threads_data config.max_threads) entry.1)
    (member (codes "name") (string entry.0) no_members))
