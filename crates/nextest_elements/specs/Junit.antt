-- What a report of tests holds.
use Rattle.std.specs.Prelude.{ℕ, List, [], ◌∷◌, Result, codes}
use Rattle.nextest_tree.specs.declared.key.Key.TheVariants.{Path, ReportName, StoreSuccessOutput, StoreFailureOutput, ReportSkipped, FlakyFailStatus}
use Rattle.nextest_elements.specs.declared.junit.ReportSkipPolicy.{ReportSkipPolicy}
use Rattle.nextest_elements.specs.declared.junit.ReportSkipPolicy.TheVariants as policies
use Rattle.nextest_elements.specs.declared.junit.JunitFlakyFailStatus.{JunitFlakyFailStatus}
use Rattle.nextest_elements.specs.declared.junit.JunitFlakyFailStatus.TheVariants as statuses
use Rattle.nextest_elements.specs.declared.junit.JunitImpl.{JunitImpl}
use Rattle.nextest_elements.specs.declared.junit.JunitOverride.{JunitOverride}
use Rattle.nextest_tree.specs.Key.{key_text}
use Rattle.nextest_tree.specs.Node.{Node, Entries, get}
use Rattle.nextest_tree.specs.Schema.{FaultCause, Schema, struct, Fields, may, no_more}
use Rattle.nextest_tree.specs.Leaf.{value, Spells, name_at, IsText, a_text, bool_at, a_bool}
use Rattle.nextest_tree.specs.Reads.{IsOptional}
use Rattle.nextest_tree.specs.Spelling.{spellings}

-- which skipped tests a report lists, as it is written
abbrev pub report_skip_policy_text : ReportSkipPolicy → List ℕ
report_skip_policy_text policies.None = codes "none"
report_skip_policy_text policies.All = codes "all"

-- the names of the choices of skipped tests that a report lists
unfoldable pub report_skip_policy_names : List (List ℕ × ReportSkipPolicy)
report_skip_policy_names = spellings report_skip_policy_text (policies.None ∷ policies.All ∷ [])

-- what a refusal says was expected
unfoldable pub report_skip_policy_expected : List ℕ
report_skip_policy_expected = codes "`none`, `all`"

-- which skipped tests a report lists, as a node spells it
abbrev pub report_skip_policy_at : Node → Result ReportSkipPolicy FaultCause
report_skip_policy_at = name_at report_skip_policy_names report_skip_policy_expected

-- one of the names of the choices of skipped tests
unfoldable pub a_report_skip_policy : Schema
a_report_skip_policy = value report_skip_policy_at

-- a report lists no skipped tests, where nothing else is said
abbrev pub usual_report_skip_policy : ReportSkipPolicy
usual_report_skip_policy = policies.None

-- how a report marks a flaky test that counts as failed, as it is written
abbrev pub junit_flaky_fail_status_text : JunitFlakyFailStatus → List ℕ
junit_flaky_fail_status_text statuses.Failure = codes "failure"
junit_flaky_fail_status_text statuses.Success = codes "success"

-- the names of the marks of a flaky test that counts as failed
unfoldable pub junit_flaky_fail_status_names : List (List ℕ × JunitFlakyFailStatus)
junit_flaky_fail_status_names =
    spellings junit_flaky_fail_status_text (statuses.Failure ∷ statuses.Success ∷ [])

-- what a refusal says was expected
unfoldable pub junit_flaky_fail_status_expected : List ℕ
junit_flaky_fail_status_expected = codes "`failure`, `success`"

-- how a report marks a flaky test that counts as failed, as a node spells it
abbrev pub junit_flaky_fail_status_at : Node → Result JunitFlakyFailStatus FaultCause
junit_flaky_fail_status_at = name_at junit_flaky_fail_status_names junit_flaky_fail_status_expected

-- one of the names of the marks of a flaky test
unfoldable pub a_junit_flaky_fail_status : Schema
a_junit_flaky_fail_status = value junit_flaky_fail_status_at

-- a report marks a flaky test that counts as failed as a failure, where nothing else is said
abbrev pub usual_junit_flaky_fail_status : JunitFlakyFailStatus
usual_junit_flaky_fail_status = statuses.Failure

-- the fields that profiles and overrides share
abbrev pub junit_override_fields : Fields
junit_override_fields =
    may StoreSuccessOutput a_bool
    (may StoreFailureOutput a_bool
    (may ReportSkipped a_report_skip_policy
    (may FlakyFailStatus a_junit_flaky_fail_status
    no_more)))

-- the table of an override
unfoldable pub a_junit_override : Schema
a_junit_override = struct junit_override_fields

-- each field says what is at its key
pub record IsJunitOverride (es : Entries) (junit : JunitOverride) : Type 0 where
  pub store_success_output :
      IsOptional (Spells bool_at) (get (key_text StoreSuccessOutput) es) junit.store_success_output
  pub store_failure_output :
      IsOptional (Spells bool_at) (get (key_text StoreFailureOutput) es) junit.store_failure_output
  pub report_skipped :
      IsOptional (Spells report_skip_policy_at)
      (get (key_text ReportSkipped) es) junit.report_skipped
  pub flaky_fail_status :
      IsOptional (Spells junit_flaky_fail_status_at)
      (get (key_text FlakyFailStatus) es) junit.flaky_fail_status

-- the fields of a profile's table
abbrev pub junit_fields : Fields
junit_fields = may Path a_text (may ReportName a_text junit_override_fields)

-- the table of a profile
unfoldable pub a_junit : Schema
a_junit = struct junit_fields

-- each field says what is at its key
pub record IsJunit (es : Entries) (junit : JunitImpl) : Type 0 where
  pub path : IsOptional IsText (get (key_text Path) es) junit.path
  pub report_name : IsOptional IsText (get (key_text ReportName) es) junit.report_name
  pub store_success_output :
      IsOptional (Spells bool_at) (get (key_text StoreSuccessOutput) es) junit.store_success_output
  pub store_failure_output :
      IsOptional (Spells bool_at) (get (key_text StoreFailureOutput) es) junit.store_failure_output
  pub report_skipped :
      IsOptional (Spells report_skip_policy_at)
      (get (key_text ReportSkipped) es) junit.report_skipped
  pub flaky_fail_status :
      IsOptional (Spells junit_flaky_fail_status_at)
      (get (key_text FlakyFailStatus) es) junit.flaky_fail_status
