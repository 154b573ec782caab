use Rattle.std.proofs.Common.{◌∙◌, ap, Some}
use Rattle.nextest_settings.specs.SettingsView.{origin_at}
use Rattle.nextest_elements.specs.declared.setting.Setting.TheVariants as at
use Rattle.nextest_settings.proofs.ValueBy.{slot_is}
use Rattle.nextest_config.specs.RowView.{origin_view}
use Rattle.nextest_config.proofs.run.row.row_of.Goals as goal

pub returns-clause-values : goal.returns-clause-values
returns-clause-values g c at.Priority = c.priority.ensures
returns-clause-values g c at.ThreadsRequired = c.threads_required.ensures
returns-clause-values g c at.RunWrapper = c.in_ok-run_wrapper_of.ensures
returns-clause-values g c at.RunExtraArgs = ap Some c.in_ok-copied_texts.ensures ∙ c.run_extra_args.ensures
returns-clause-values g c at.Retries = c.retries.ensures
returns-clause-values g c at.FlakyResult = c.flaky_result.ensures
returns-clause-values g c at.SlowTimeout = c.slow_timeout.ensures
returns-clause-values g c at.LeakTimeout = c.leak_timeout.ensures
returns-clause-values g c at.TestGroup = ap Some c.in_ok-clone.ensures.cases ∙ c.test_group.ensures
returns-clause-values g c at.SuccessOutput = c.success_output.ensures
returns-clause-values g c at.FailureOutput = c.failure_output.ensures
returns-clause-values g c at.JunitStoreSuccessOutput = c.junit_store_success_output.ensures
returns-clause-values g c at.JunitStoreFailureOutput = c.junit_store_failure_output.ensures
returns-clause-values g c at.JunitReportSkipped = c.junit_report_skipped.ensures
returns-clause-values g c at.JunitFlakyFailStatus = c.junit_flaky_fail_status.ensures

pub returns-clause-sources : goal.returns-clause-sources
returns-clause-sources g c s =
    slot_is origin_view c.in_ok-sources_of.field-0.items (origin_at c.args.settings.now) c.in_ok-sources_of.ensures s
