use Rattle.std.proofs.Common.{refl}
use Rattle.nextest_config.proofs.run.row.TestRow.value.Goals as goal

pub returns-in-Priority : goal.returns-in-Priority
returns-in-Priority c = rw c.in-Priority.is refl

pub returns-in-ThreadsRequired : goal.returns-in-ThreadsRequired
returns-in-ThreadsRequired c = rw c.in-ThreadsRequired.is refl

pub returns-in-Retries : goal.returns-in-Retries
returns-in-Retries c = rw c.in-Retries.is refl

pub returns-in-FlakyResult : goal.returns-in-FlakyResult
returns-in-FlakyResult c = rw c.in-FlakyResult.is refl

pub returns-in-SlowTimeout : goal.returns-in-SlowTimeout
returns-in-SlowTimeout c = rw c.in-SlowTimeout.is refl

pub returns-in-LeakTimeout : goal.returns-in-LeakTimeout
returns-in-LeakTimeout c = rw c.in-LeakTimeout.is refl

pub returns-in-TestGroup : goal.returns-in-TestGroup
returns-in-TestGroup c = rw c.in-TestGroup.is refl

pub returns-in-SuccessOutput : goal.returns-in-SuccessOutput
returns-in-SuccessOutput c = rw c.in-SuccessOutput.is refl

pub returns-in-FailureOutput : goal.returns-in-FailureOutput
returns-in-FailureOutput c = rw c.in-FailureOutput.is refl

pub returns-in-JunitStoreSuccessOutput : goal.returns-in-JunitStoreSuccessOutput
returns-in-JunitStoreSuccessOutput c = rw c.in-JunitStoreSuccessOutput.is refl

pub returns-in-JunitStoreFailureOutput : goal.returns-in-JunitStoreFailureOutput
returns-in-JunitStoreFailureOutput c = rw c.in-JunitStoreFailureOutput.is refl

pub returns-in-JunitReportSkipped : goal.returns-in-JunitReportSkipped
returns-in-JunitReportSkipped c = rw c.in-JunitReportSkipped.is refl

pub returns-in-JunitFlakyFailStatus : goal.returns-in-JunitFlakyFailStatus
returns-in-JunitFlakyFailStatus c = rw c.in-JunitFlakyFailStatus.is refl

pub returns-in-RunExtraArgs : goal.returns-in-RunExtraArgs
returns-in-RunExtraArgs c = rw (c.in-RunExtraArgs.is, c.deref.ensures.value) refl

pub returns-in-Some : goal.returns-in-Some
returns-in-Some c = rw (c.in-RunWrapper.is, c.in-Some.is) refl

pub returns-in-None : goal.returns-in-None
returns-in-None c = rw (c.in-RunWrapper.is, c.in-None.is) refl
