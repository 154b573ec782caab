-- The result of a flaky test.
use Rattle.std.specs.Prelude.{ℕ, List, [], ◌∷◌, Result, codes}
use Rattle.nextest_elements.specs.declared.flaky_result.FlakyResult.{FlakyResult}
use Rattle.nextest_elements.specs.declared.flaky_result.FlakyResult.TheVariants as results
use Rattle.nextest_tree.specs.Node.{Node}
use Rattle.nextest_tree.specs.Schema.{FaultCause, Schema}
use Rattle.nextest_tree.specs.Leaf.{value, name_at}
use Rattle.nextest_tree.specs.Spelling.{spellings}

-- the result of a flaky test, as it is written
abbrev pub flaky_result_text : FlakyResult → List ℕ
flaky_result_text results.Pass = codes "pass"
flaky_result_text results.Fail = codes "fail"

-- the names of the results of a flaky test
unfoldable pub flaky_result_names : List (List ℕ × FlakyResult)
flaky_result_names = spellings flaky_result_text (results.Pass ∷ results.Fail ∷ [])

-- what a refusal says was expected
unfoldable pub flaky_result_expected : List ℕ
flaky_result_expected = codes "`pass`, `fail`"

-- the result of a flaky test, as a node spells it
abbrev pub flaky_result_at : Node → Result FlakyResult FaultCause
flaky_result_at = name_at flaky_result_names flaky_result_expected

-- a name of a result
unfoldable pub a_flaky_result : Schema
a_flaky_result = value flaky_result_at
