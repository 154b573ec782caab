-- Wrapper scripts.
use Rattle.std.specs.Prelude.{◌≡◌, ℕ, List, [], ◌∷◌, Some, Result, codes}
use Rattle.nextest_tree.specs.declared.key.Key.TheVariants as keys
use Rattle.nextest_tree.specs.Key.{key_text}
use Rattle.nextest_tree.specs.Leaf.{value, name_at, leaf_or}
use Rattle.nextest_tree.specs.Node.{Node, Entries, get}
use Rattle.nextest_tree.specs.Reads.{IsOptional}
use Rattle.nextest_tree.specs.Schema.{FaultCause, Schema, struct, Fields, no_more, may, must}
use Rattle.nextest_scripts.specs.Command.{a_command, IsCommand}
use Rattle.nextest_scripts.specs.declared.wrapper_script.WrapperScriptConfig.{WrapperScriptConfig}
use Rattle.nextest_scripts.specs.declared.wrapper_script.WrapperScriptTargetRunner.{WrapperScriptTargetRunner}
use Rattle.nextest_scripts.specs.declared.wrapper_script.WrapperScriptTargetRunner.TheVariants as runners

-- What a wrapper makes of a target runner, as it is written.
unfoldable pub target_runner_names : List (List ℕ × WrapperScriptTargetRunner)
target_runner_names =
    (codes "ignore", runners.Ignore)
    ∷ (codes "overrides-wrapper", runners.OverridesWrapper)
    ∷ (codes "within-wrapper", runners.WithinWrapper)
    ∷ (codes "around-wrapper", runners.AroundWrapper)
    ∷ []

-- What a refusal says was expected.
unfoldable pub target_runner_expected : List ℕ
target_runner_expected = codes "`ignore`, `overrides-wrapper`, `within-wrapper`, `around-wrapper`"

-- A target runner is ignored where nothing else is said.
abbrev pub usual_target_runner : WrapperScriptTargetRunner
usual_target_runner = runners.Ignore

-- What a wrapper makes of a target runner, as a node spells it.
abbrev pub target_runner_at : Node → Result WrapperScriptTargetRunner FaultCause
target_runner_at = name_at target_runner_names target_runner_expected

-- One of these names.
unfoldable pub a_target_runner : Schema
a_target_runner = value target_runner_at

-- The fields of a wrapper script.
abbrev pub wrapper_script_fields : Fields
wrapper_script_fields = must keys.Command a_command (may keys.TargetRunner a_target_runner no_more)

-- A table of these fields.
unfoldable pub a_wrapper_script : Schema
a_wrapper_script = struct wrapper_script_fields

-- A wrapper script's table spells its command, and what it makes of a target runner.
pub record IsWrapperScript (es : Entries) (script : WrapperScriptConfig) : Type 0 where
  pub command : IsOptional IsCommand (get (key_text keys.Command) es) (Some script.command)
  pub target_runner : script.target_runner
      ≡ leaf_or usual_target_runner target_runner_at (get (key_text keys.TargetRunner) es)
