use Rattle.std.proofs.Common.{refl}
use Rattle.nextest_settings.proofs.written.ProfileFieldsSettingValues.value.Goals as goal

pub returns-in_err-runs-in-ThreadsRequired : goal.returns-in_err-runs-in-ThreadsRequired
returns-in_err-runs-in-ThreadsRequired c =
    rw (c.in-ThreadsRequired.is, c.in_err-runs-in-ThreadsRequired.was, c.from_residual.ensures) refl

pub returns-in_ok-runs-in-ThreadsRequired : goal.returns-in_ok-runs-in-ThreadsRequired
returns-in_ok-runs-in-ThreadsRequired c = rw (c.in-ThreadsRequired.is, c.in_ok-runs-in-ThreadsRequired.was) refl

pub returns-in_err-as_ref-in-RunExtraArgs : goal.returns-in_err-as_ref-in-RunExtraArgs
returns-in_err-as_ref-in-RunExtraArgs c =
    rw (c.in-RunExtraArgs.is, ← c.as_ref.ensures.value, c.in_err-as_ref-in-RunExtraArgs.was, c.from_residual-in_err-as_ref-in-RunExtraArgs.ensures) refl

pub returns-in_ok-as_ref-in-RunExtraArgs : goal.returns-in_ok-as_ref-in-RunExtraArgs
returns-in_ok-as_ref-in-RunExtraArgs c =
    rw (c.in-RunExtraArgs.is, ← c.as_ref.ensures.value, c.in_ok-as_ref-in-RunExtraArgs.was, c.deref.ensures.value) refl

pub returns-in_err-runs-in-Retries : goal.returns-in_err-runs-in-Retries
returns-in_err-runs-in-Retries c =
    rw (c.in-Retries.is, c.in_err-runs-in-Retries.was, c.from_residual-in_err-runs-in-Retries.ensures) refl

pub returns-in_ok-runs-in-Retries : goal.returns-in_ok-runs-in-Retries
returns-in_ok-runs-in-Retries c = rw (c.in-Retries.is, c.in_ok-runs-in-Retries.was) refl

pub returns-in_err-runs-in-FlakyResult : goal.returns-in_err-runs-in-FlakyResult
returns-in_err-runs-in-FlakyResult c =
    rw (c.in-FlakyResult.is, c.in_err-runs-in-FlakyResult.was, c.from_residual-in_err-runs-in-FlakyResult.ensures) refl

pub returns-in_ok-runs-in-FlakyResult : goal.returns-in_ok-runs-in-FlakyResult
returns-in_ok-runs-in-FlakyResult c = rw (c.in-FlakyResult.is, c.in_ok-runs-in-FlakyResult.was) refl

pub returns-in_err-profile_timeout-in-SlowTimeout : goal.returns-in_err-profile_timeout-in-SlowTimeout
returns-in_err-profile_timeout-in-SlowTimeout c =
    rw (c.in-SlowTimeout.is, ← c.profile_timeout.ensures, c.in_err-profile_timeout-in-SlowTimeout.was, c.from_residual-in_err-profile_timeout-in-SlowTimeout.ensures) refl

pub returns-in_ok-profile_timeout-in-SlowTimeout : goal.returns-in_ok-profile_timeout-in-SlowTimeout
returns-in_ok-profile_timeout-in-SlowTimeout c =
    rw (c.in-SlowTimeout.is, ← c.profile_timeout.ensures, c.in_ok-profile_timeout-in-SlowTimeout.was) refl

pub returns-in_err-self-in-LeakTimeout : goal.returns-in_err-self-in-LeakTimeout
returns-in_err-self-in-LeakTimeout c =
    rw (c.in-LeakTimeout.is, c.in_err-self-in-LeakTimeout.was, c.from_residual-in_err-self-in-LeakTimeout.ensures) refl

pub returns-in_ok-self-in-LeakTimeout : goal.returns-in_ok-self-in-LeakTimeout
returns-in_ok-self-in-LeakTimeout c = rw (c.in-LeakTimeout.is, c.in_ok-self-in-LeakTimeout.was) refl

pub returns-in_err-outputs-in-SuccessOutput : goal.returns-in_err-outputs-in-SuccessOutput
returns-in_err-outputs-in-SuccessOutput c =
    rw (c.in-SuccessOutput.is, c.in_err-outputs-in-SuccessOutput.was, c.from_residual-in_err-outputs-in-SuccessOutput.ensures) refl

pub returns-in_ok-outputs-in-SuccessOutput : goal.returns-in_ok-outputs-in-SuccessOutput
returns-in_ok-outputs-in-SuccessOutput c = rw (c.in-SuccessOutput.is, c.in_ok-outputs-in-SuccessOutput.was) refl

pub returns-in_err-outputs-in-FailureOutput : goal.returns-in_err-outputs-in-FailureOutput
returns-in_err-outputs-in-FailureOutput c =
    rw (c.in-FailureOutput.is, c.in_err-outputs-in-FailureOutput.was, c.from_residual-in_err-outputs-in-FailureOutput.ensures) refl

pub returns-in_ok-outputs-in-FailureOutput : goal.returns-in_ok-outputs-in-FailureOutput
returns-in_ok-outputs-in-FailureOutput c = rw (c.in-FailureOutput.is, c.in_ok-outputs-in-FailureOutput.was) refl

pub returns-in_err-junit-in-JunitStoreSuccessOutput : goal.returns-in_err-junit-in-JunitStoreSuccessOutput
returns-in_err-junit-in-JunitStoreSuccessOutput c =
    rw (c.in-JunitStoreSuccessOutput.is, ← c.profile_report-junit.ensures.success_output, c.in_err-junit-in-JunitStoreSuccessOutput.was, c.from_residual-in_err-junit-in-JunitStoreSuccessOutput.ensures) refl

pub returns-in_ok-junit-in-JunitStoreSuccessOutput : goal.returns-in_ok-junit-in-JunitStoreSuccessOutput
returns-in_ok-junit-in-JunitStoreSuccessOutput c =
    rw (c.in-JunitStoreSuccessOutput.is, ← c.profile_report-junit.ensures.success_output, c.in_ok-junit-in-JunitStoreSuccessOutput.was) refl

pub returns-in_err-junit-in-JunitStoreFailureOutput : goal.returns-in_err-junit-in-JunitStoreFailureOutput
returns-in_err-junit-in-JunitStoreFailureOutput c =
    rw (c.in-JunitStoreFailureOutput.is, ← c.profile_report-junit.ensures.failure_output, c.in_err-junit-in-JunitStoreFailureOutput.was, c.from_residual-in_err-junit-in-JunitStoreFailureOutput.ensures) refl

pub returns-in_ok-junit-in-JunitStoreFailureOutput : goal.returns-in_ok-junit-in-JunitStoreFailureOutput
returns-in_ok-junit-in-JunitStoreFailureOutput c =
    rw (c.in-JunitStoreFailureOutput.is, ← c.profile_report-junit.ensures.failure_output, c.in_ok-junit-in-JunitStoreFailureOutput.was) refl

pub returns-in_err-junit-in-JunitReportSkipped : goal.returns-in_err-junit-in-JunitReportSkipped
returns-in_err-junit-in-JunitReportSkipped c =
    rw (c.in-JunitReportSkipped.is, ← c.profile_report-junit.ensures.skipped, c.in_err-junit-in-JunitReportSkipped.was, c.from_residual-in_err-junit-in-JunitReportSkipped.ensures) refl

pub returns-in_ok-junit-in-JunitReportSkipped : goal.returns-in_ok-junit-in-JunitReportSkipped
returns-in_ok-junit-in-JunitReportSkipped c =
    rw (c.in-JunitReportSkipped.is, ← c.profile_report-junit.ensures.skipped, c.in_ok-junit-in-JunitReportSkipped.was) refl

pub returns-in_err-junit-in-JunitFlakyFailStatus : goal.returns-in_err-junit-in-JunitFlakyFailStatus
returns-in_err-junit-in-JunitFlakyFailStatus c =
    rw (c.in-JunitFlakyFailStatus.is, ← c.profile_report-junit.ensures.status, c.in_err-junit-in-JunitFlakyFailStatus.was, c.from_residual-in_err-junit-in-JunitFlakyFailStatus.ensures) refl

pub returns-in_ok-junit-in-JunitFlakyFailStatus : goal.returns-in_ok-junit-in-JunitFlakyFailStatus
returns-in_ok-junit-in-JunitFlakyFailStatus c =
    rw (c.in-JunitFlakyFailStatus.is, ← c.profile_report-junit.ensures.status, c.in_ok-junit-in-JunitFlakyFailStatus.was) refl

pub returns-in-Priority : goal.returns-in-Priority
returns-in-Priority c = rw c.in-Priority.is refl

pub returns-in-RunWrapper : goal.returns-in-RunWrapper
returns-in-RunWrapper c = rw c.in-RunWrapper.is refl

pub returns-in-TestGroup : goal.returns-in-TestGroup
returns-in-TestGroup c = rw c.in-TestGroup.is refl
