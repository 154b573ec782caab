use Rattle.std.proofs.Common.{[], ◌∷◌, codes, refl}
use Rattle.std.proofs.lemmas.Result.{IfOk-weaker}
use Rattle.nextest_elements.specs.FlakyResult.{a_flaky_result}
use Rattle.nextest_elements.specs.Junit.{a_report_skip_policy, a_junit_flaky_fail_status}
use Rattle.nextest_elements.specs.LeakTimeout.{a_leak_result}
use Rattle.nextest_elements.specs.Positive.{a_positive}
use Rattle.nextest_elements.specs.SlowTimeout.{a_slow_result}
use Rattle.nextest_elements.specs.StatusLevel.{a_status_level, a_final_status_level}
use Rattle.nextest_elements.specs.TestGroup.{a_test_group}
use Rattle.nextest_elements.specs.TestOutputDisplay.{a_test_output_display}
use Rattle.nextest_elements.specs.TestPriority.{a_priority}
use Rattle.nextest_elements.specs.TestThreads.{a_test_threads}
use Rattle.nextest_elements.specs.ThreadsRequired.{a_threads_required}
use Rattle.nextest_scripts.specs.Command.{a_relative_to}
use Rattle.nextest_scripts.specs.WrapperScript.{a_target_runner}
use Rattle.nextest_elements.specs.IdentifierReader.{an_identifier}
use Rattle.nextest_elements.specs.Nanoseconds.{a_duration}
use Rattle.nextest_elements.specs.RetryPolicy.{backoff_at, backoff_expected}
use Rattle.nextest_scripts.specs.SetupScript.{setup_result_at, setup_result_expected}
use Rattle.nextest_tree.specs.Leaf.{a_text, a_bool, cause_of}
use Rattle.nextest_tree.specs.View.{tree_view}
use Rattle.nextest_shape.specs.Faults.Found.{IsCause}
use Rattle.nextest_shape.specs.Faults.Places.{leaf_test}
use Rattle.nextest_shape.specs.Faults.Values.{words_cause}
use Rattle.nextest_shape.proofs.faults.Words.{backoff_words, setup_words}
use Rattle.nextest_shape.specs.declared.faults.leaf.Leaf.TheVariants as leaves
use Rattle.nextest_shape.proofs.faults.leaf.Leaf.cause.Goals as goal

pub returns-in-Text : goal.returns-in-Text
unfolding a_text
returns-in-Text c =
    rw c.in-Text.is (c.element_cause.ensures (leaf_test leaves.Text (tree_view c.args.tree.now)) (λ p. refl))

pub returns-in-Boolean : goal.returns-in-Boolean
unfolding a_bool
returns-in-Boolean c =
    rw c.in-Boolean.is (c.element_cause-in-Boolean.ensures (leaf_test leaves.Boolean (tree_view c.args.tree.now)) (λ p. refl))

pub returns-in-Duration : goal.returns-in-Duration
unfolding a_duration
returns-in-Duration c =
    rw c.in-Duration.is (c.element_cause-in-Duration.ensures (leaf_test leaves.Duration (tree_view c.args.tree.now)) (λ p. refl))

pub returns-in-Identifier : goal.returns-in-Identifier
unfolding an_identifier
returns-in-Identifier c =
    rw c.in-Identifier.is (c.element_cause-in-Identifier.ensures (leaf_test leaves.Identifier (tree_view c.args.tree.now)) (λ p. refl))

pub returns-in-TestGroup : goal.returns-in-TestGroup
unfolding a_test_group
returns-in-TestGroup c =
    rw c.in-TestGroup.is (c.element_cause-in-TestGroup.ensures (leaf_test leaves.TestGroup (tree_view c.args.tree.now)) (λ p. refl))

pub returns-in-FlakyResult : goal.returns-in-FlakyResult
unfolding a_flaky_result
returns-in-FlakyResult c =
    rw c.in-FlakyResult.is (c.element_cause-in-FlakyResult.ensures (leaf_test leaves.FlakyResult (tree_view c.args.tree.now)) (λ p. refl))

pub returns-in-StatusLevel : goal.returns-in-StatusLevel
unfolding a_status_level
returns-in-StatusLevel c =
    rw c.in-StatusLevel.is (c.element_cause-in-StatusLevel.ensures (leaf_test leaves.StatusLevel (tree_view c.args.tree.now)) (λ p. refl))

pub returns-in-FinalStatusLevel : goal.returns-in-FinalStatusLevel
unfolding a_final_status_level
returns-in-FinalStatusLevel c =
    rw c.in-FinalStatusLevel.is (c.element_cause-in-FinalStatusLevel.ensures (leaf_test leaves.FinalStatusLevel (tree_view c.args.tree.now)) (λ p. refl))

pub returns-in-Output : goal.returns-in-Output
unfolding a_test_output_display
returns-in-Output c =
    rw c.in-Output.is (c.element_cause-in-Output.ensures (leaf_test leaves.Output (tree_view c.args.tree.now)) (λ p. refl))

pub returns-in-Priority : goal.returns-in-Priority
unfolding a_priority
returns-in-Priority c =
    rw c.in-Priority.is (c.element_cause-in-Priority.ensures (leaf_test leaves.Priority (tree_view c.args.tree.now)) (λ p. refl))

pub returns-in-TestThreads : goal.returns-in-TestThreads
unfolding a_test_threads
returns-in-TestThreads c =
    rw c.in-TestThreads.is (c.element_cause-in-TestThreads.ensures (leaf_test leaves.TestThreads (tree_view c.args.tree.now)) (λ p. refl))

pub returns-in-ThreadsRequired : goal.returns-in-ThreadsRequired
unfolding a_threads_required
returns-in-ThreadsRequired c =
    rw c.in-ThreadsRequired.is (c.element_cause-in-ThreadsRequired.ensures (leaf_test leaves.ThreadsRequired (tree_view c.args.tree.now)) (λ p. refl))

pub returns-in-Positive : goal.returns-in-Positive
unfolding a_positive
returns-in-Positive c =
    rw c.in-Positive.is (c.element_cause-in-Positive.ensures (leaf_test leaves.Positive (tree_view c.args.tree.now)) (λ p. refl))

pub returns-in-LeakResult : goal.returns-in-LeakResult
unfolding a_leak_result
returns-in-LeakResult c =
    rw c.in-LeakResult.is (c.element_cause-in-LeakResult.ensures (leaf_test leaves.LeakResult (tree_view c.args.tree.now)) (λ p. refl))

pub returns-in-SlowResult : goal.returns-in-SlowResult
unfolding a_slow_result
returns-in-SlowResult c =
    rw c.in-SlowResult.is (c.element_cause-in-SlowResult.ensures (leaf_test leaves.SlowResult (tree_view c.args.tree.now)) (λ p. refl))

pub returns-in-ReportSkipped : goal.returns-in-ReportSkipped
unfolding a_report_skip_policy
returns-in-ReportSkipped c =
    rw c.in-ReportSkipped.is (c.element_cause-in-ReportSkipped.ensures (leaf_test leaves.ReportSkipped (tree_view c.args.tree.now)) (λ p. refl))

pub returns-in-FlakyFailStatus : goal.returns-in-FlakyFailStatus
unfolding a_junit_flaky_fail_status
returns-in-FlakyFailStatus c =
    rw c.in-FlakyFailStatus.is (c.element_cause-in-FlakyFailStatus.ensures (leaf_test leaves.FlakyFailStatus (tree_view c.args.tree.now)) (λ p. refl))

pub returns-in-RelativeTo : goal.returns-in-RelativeTo
unfolding a_relative_to
returns-in-RelativeTo c =
    rw c.in-RelativeTo.is (c.element_cause-in-RelativeTo.ensures (leaf_test leaves.RelativeTo (tree_view c.args.tree.now)) (λ p. refl))

pub returns-in-TargetRunner : goal.returns-in-TargetRunner
unfolding a_target_runner
returns-in-TargetRunner c =
    rw c.in-TargetRunner.is (c.element_cause-in-TargetRunner.ensures (leaf_test leaves.TargetRunner (tree_view c.args.tree.now)) (λ p. refl))

pub returns-in-Limit : goal.returns-in-Limit
returns-in-Limit c = rw c.in-Limit.is c.limit_cause.ensures

pub returns-in-Count : goal.returns-in-Count
returns-in-Count c = rw c.in-Count.is c.count_cause.ensures

pub returns-in-CommandLine : goal.returns-in-CommandLine
returns-in-CommandLine c = rw c.in-CommandLine.is c.line_cause.ensures

pub returns-in-Table : goal.returns-in-Table
returns-in-Table c = rw c.in-Table.is c.table_cause.ensures

pub returns-in-Array : goal.returns-in-Array
returns-in-Array c = rw c.in-Array.is c.array_cause.ensures

pub returns-in-Backoff : goal.returns-in-Backoff
unfolding backoff_expected
returns-in-Backoff c =
    let n = tree_view c.args.tree.now in
    rw c.in-Backoff.is (IfOk-weaker c.words_cause.result
    (λ cause. IsCause cause (words_cause (codes "fixed" ∷ codes "exponential" ∷ []) backoff_expected n))
    (λ cause. IsCause cause (cause_of (backoff_at n))) (λ cause is. backoff_words cause n is) c.words_cause.ensures)

pub returns-in-SetupResult : goal.returns-in-SetupResult
unfolding setup_result_expected
returns-in-SetupResult c =
    let n = tree_view c.args.tree.now in
    rw c.in-SetupResult.is (IfOk-weaker c.words_cause-in-SetupResult.result
    (λ cause. IsCause cause (words_cause (codes "fail" ∷ []) setup_result_expected n))
    (λ cause. IsCause cause (cause_of (setup_result_at n))) (λ cause is. setup_words cause n is)
    c.words_cause-in-SetupResult.ensures)
