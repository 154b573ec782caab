-- Which tests are shown.
use Rattle.std.specs.Prelude.{ℕ, List, [], ◌∷◌, ◌++◌, Result, codes}
use Rattle.nextest_elements.specs.declared.status_level.StatusLevel.{StatusLevel}
use Rattle.nextest_elements.specs.declared.status_level.StatusLevel.TheVariants as levels
use Rattle.nextest_elements.specs.declared.status_level.FinalStatusLevel.{FinalStatusLevel}
use Rattle.nextest_elements.specs.declared.status_level.FinalStatusLevel.TheVariants as final_levels
use Rattle.nextest_tree.specs.Node.{Node}
use Rattle.nextest_tree.specs.Schema.{FaultCause, Schema}
use Rattle.nextest_tree.specs.Leaf.{value, name_at}
use Rattle.nextest_tree.specs.Spelling.{spellings}

-- which tests are shown while they run, as it is written
abbrev pub status_level_text : StatusLevel → List ℕ
status_level_text levels.None = codes "none"
status_level_text levels.Fail = codes "fail"
status_level_text levels.Retry = codes "retry"
status_level_text levels.Slow = codes "slow"
status_level_text levels.Leak = codes "leak"
status_level_text levels.Pass = codes "pass"
status_level_text levels.Skip = codes "skip"
status_level_text levels.All = codes "all"

-- the names of the levels while tests run
unfoldable pub status_level_names : List (List ℕ × StatusLevel)
status_level_names = spellings status_level_text
    (levels.None ∷ levels.Fail ∷ levels.Retry ∷ levels.Slow ∷ levels.Leak ∷ levels.Pass
    ∷ levels.Skip ∷ levels.All ∷ [])

-- what a refusal says was expected
unfoldable pub status_level_expected : List ℕ
status_level_expected = codes "`none`, `fail`, `retry`, `slow`, `leak`, `pass`, `skip`, `all`"

-- which tests are shown while they run, as a node spells it
abbrev pub status_level_at : Node → Result StatusLevel FaultCause
status_level_at = name_at status_level_names status_level_expected

-- one of the names of the levels while tests run
unfoldable pub a_status_level : Schema
a_status_level = value status_level_at

-- which tests are shown at the end of a run, as it is written
abbrev pub final_status_level_text : FinalStatusLevel → List ℕ
final_status_level_text final_levels.None = codes "none"
final_status_level_text final_levels.Fail = codes "fail"
final_status_level_text final_levels.Flaky = codes "flaky"
final_status_level_text final_levels.Slow = codes "slow"
final_status_level_text final_levels.Skip = codes "skip"
final_status_level_text final_levels.Leak = codes "leak"
final_status_level_text final_levels.Pass = codes "pass"
final_status_level_text final_levels.All = codes "all"

-- the names of the levels at the end of a run; `retry` means `flaky` too
unfoldable pub final_status_level_names : List (List ℕ × FinalStatusLevel)
final_status_level_names = spellings final_status_level_text
    (final_levels.None ∷ final_levels.Fail ∷ final_levels.Flaky ∷ final_levels.Slow
    ∷ final_levels.Skip ∷ final_levels.Leak ∷ final_levels.Pass ∷ final_levels.All ∷ [])
    ++ (codes "retry", final_levels.Flaky) ∷ []

-- what a refusal says was expected
unfoldable pub final_status_level_expected : List ℕ
final_status_level_expected = codes "`none`, `fail`, `flaky`, `slow`, `skip`, `leak`, `pass`, `all`"

-- which tests are shown at the end of a run, as a node spells it
abbrev pub final_status_level_at : Node → Result FinalStatusLevel FaultCause
final_status_level_at = name_at final_status_level_names final_status_level_expected

-- one of the names of the levels at the end of a run
unfoldable pub a_final_status_level : Schema
a_final_status_level = value final_status_level_at
