-- When the output of a test is shown.
use Rattle.std.specs.Prelude.{ℕ, List, [], ◌∷◌, Result, codes}
use Rattle.nextest_elements.specs.declared.test_output_display.TestOutputDisplay.{TestOutputDisplay}
use Rattle.nextest_elements.specs.declared.test_output_display.TestOutputDisplay.TheVariants as displays
use Rattle.nextest_tree.specs.Node.{Node}
use Rattle.nextest_tree.specs.Schema.{FaultCause, Schema}
use Rattle.nextest_tree.specs.Leaf.{value, name_at}
use Rattle.nextest_tree.specs.Spelling.{spellings}

-- when the output of a test is shown, as it is written
abbrev pub test_output_display_text : TestOutputDisplay → List ℕ
test_output_display_text displays.Immediate = codes "immediate"
test_output_display_text displays.ImmediateFinal = codes "immediate-final"
test_output_display_text displays.Final = codes "final"
test_output_display_text displays.Never = codes "never"

-- the names of the times at which the output of a test is shown
unfoldable pub test_output_display_names : List (List ℕ × TestOutputDisplay)
test_output_display_names = spellings test_output_display_text
    (displays.Immediate ∷ displays.ImmediateFinal ∷ displays.Final ∷ displays.Never ∷ [])

-- what a refusal says was expected
unfoldable pub test_output_display_expected : List ℕ
test_output_display_expected = codes "`immediate`, `immediate-final`, `final`, `never`"

-- when the output of a test is shown, as a node spells it
abbrev pub test_output_display_at : Node → Result TestOutputDisplay FaultCause
test_output_display_at = name_at test_output_display_names test_output_display_expected

-- one of the names of the times at which output is shown
unfoldable pub a_test_output_display : Schema
a_test_output_display = value test_output_display_at
