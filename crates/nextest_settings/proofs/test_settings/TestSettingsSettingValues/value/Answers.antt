use Rattle.std.proofs.Common.{ap, option_map}
use Rattle.nextest_settings.specs.SettingValues.{by_kind}
use Rattle.nextest_elements.specs.declared.setting.Setting.TheVariants as at
use Rattle.nextest_settings.proofs.test_settings.TestSettingsSettingValues.value.Goals as goal

pub returns-in-Priority : goal.returns-in-Priority
returns-in-Priority g c = rw c.in-Priority.is (ap (option_map (by_kind at.Priority)) c.priority.ensures)

pub returns-in-ThreadsRequired : goal.returns-in-ThreadsRequired
returns-in-ThreadsRequired g c = rw c.in-ThreadsRequired.is (ap (option_map (by_kind at.ThreadsRequired)) c.threads_required.ensures)

pub returns-in-RunExtraArgs : goal.returns-in-RunExtraArgs
returns-in-RunExtraArgs g c = rw c.in-RunExtraArgs.is (ap (option_map (by_kind at.RunExtraArgs)) c.run_extra_args.ensures)

pub returns-in-Retries : goal.returns-in-Retries
returns-in-Retries g c = rw c.in-Retries.is (ap (option_map (by_kind at.Retries)) c.retries.ensures)

pub returns-in-FlakyResult : goal.returns-in-FlakyResult
returns-in-FlakyResult g c = rw c.in-FlakyResult.is (ap (option_map (by_kind at.FlakyResult)) c.flaky_result.ensures)

pub returns-in-SlowTimeout : goal.returns-in-SlowTimeout
returns-in-SlowTimeout g c = rw c.in-SlowTimeout.is (ap (option_map (by_kind at.SlowTimeout)) c.slow_timeout.ensures)

pub returns-in-LeakTimeout : goal.returns-in-LeakTimeout
returns-in-LeakTimeout g c = rw c.in-LeakTimeout.is (ap (option_map (by_kind at.LeakTimeout)) c.leak_timeout.ensures)

pub returns-in-TestGroup : goal.returns-in-TestGroup
returns-in-TestGroup g c = rw c.in-TestGroup.is (ap (option_map (by_kind at.TestGroup)) c.test_group.ensures)

pub returns-in-SuccessOutput : goal.returns-in-SuccessOutput
returns-in-SuccessOutput g c = rw c.in-SuccessOutput.is (ap (option_map (by_kind at.SuccessOutput)) c.success_output.ensures)

pub returns-in-FailureOutput : goal.returns-in-FailureOutput
returns-in-FailureOutput g c = rw c.in-FailureOutput.is (ap (option_map (by_kind at.FailureOutput)) c.failure_output.ensures)

pub returns-in-JunitStoreSuccessOutput : goal.returns-in-JunitStoreSuccessOutput
returns-in-JunitStoreSuccessOutput g c = rw c.in-JunitStoreSuccessOutput.is (ap (option_map (by_kind at.JunitStoreSuccessOutput)) c.junit_store_success_output.ensures)

pub returns-in-JunitStoreFailureOutput : goal.returns-in-JunitStoreFailureOutput
returns-in-JunitStoreFailureOutput g c = rw c.in-JunitStoreFailureOutput.is (ap (option_map (by_kind at.JunitStoreFailureOutput)) c.junit_store_failure_output.ensures)

pub returns-in-JunitReportSkipped : goal.returns-in-JunitReportSkipped
returns-in-JunitReportSkipped g c = rw c.in-JunitReportSkipped.is (ap (option_map (by_kind at.JunitReportSkipped)) c.junit_report_skipped.ensures)

pub returns-in-JunitFlakyFailStatus : goal.returns-in-JunitFlakyFailStatus
returns-in-JunitFlakyFailStatus g c = rw c.in-JunitFlakyFailStatus.is (ap (option_map (by_kind at.JunitFlakyFailStatus)) c.junit_flaky_fail_status.ensures)

pub returns-in-Some : goal.returns-in-Some
returns-in-Some g c =
    rw c.in-RunWrapper.is (ap (option_map (by_kind at.RunWrapper)) (rw c.in-Some.is at c.run_wrapper_id.ensures))

pub returns-in-None : goal.returns-in-None
returns-in-None g c =
    rw c.in-RunWrapper.is (ap (option_map (by_kind at.RunWrapper)) (rw c.in-None.is at c.run_wrapper_id.ensures))
