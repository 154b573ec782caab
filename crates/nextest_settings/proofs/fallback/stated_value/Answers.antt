use Rattle.std.proofs.Common.{◌≡◌, Bool, true, false, not, Option, None, Some, ap, option_map, refl}
use Rattle.std.specs.Bool.{then_some}
use Rattle.nextest_settings.specs.SettingValues.{ValueByKind, by_kind, setting_value_view, stated_value}
use Rattle.nextest_elements.specs.declared.setting.Setting.TheVariants as at
use Rattle.nextest_settings.specs.declared.setting_value.SettingValue.{SettingValue}
use Rattle.nextest_settings.proofs.fallback.stated_value.Goals as goal

-- what is stated where no report is written
unreported : {X : Type 0} (kind : X → ValueByKind) (stated : Bool → Option X) (held : SettingValue) (nothing : X)
    → setting_value_view held ≡ kind nothing → stated false ≡ Some nothing → stated true ≡ None
    → (has : Bool) → option_map setting_value_view (then_some (not has) held) ≡ option_map kind (stated has)
unreported kind stated held nothing same without with false = rw without (ap Some same)
unreported kind stated held nothing same without with true = rw with refl

pub returns-in-Priority : goal.returns-in-Priority
returns-in-Priority c = rw c.in-Priority.is refl

pub returns-in-ThreadsRequired : goal.returns-in-ThreadsRequired
returns-in-ThreadsRequired c = rw c.in-ThreadsRequired.is refl

pub returns-in-RunWrapper : goal.returns-in-RunWrapper
returns-in-RunWrapper c = rw c.in-RunWrapper.is refl

pub returns-in-RunExtraArgs : goal.returns-in-RunExtraArgs
returns-in-RunExtraArgs c = rw c.in-RunExtraArgs.is refl

pub returns-in-Retries : goal.returns-in-Retries
returns-in-Retries c = rw c.in-Retries.is refl

pub returns-in-FlakyResult : goal.returns-in-FlakyResult
returns-in-FlakyResult c = rw c.in-FlakyResult.is refl

pub returns-in-SlowTimeout : goal.returns-in-SlowTimeout
returns-in-SlowTimeout c = rw c.in-SlowTimeout.is refl

pub returns-in-LeakTimeout : goal.returns-in-LeakTimeout
returns-in-LeakTimeout c = rw c.in-LeakTimeout.is refl

pub returns-in-TestGroup : goal.returns-in-TestGroup
returns-in-TestGroup c = rw c.in-TestGroup.is refl

pub returns-in-SuccessOutput : goal.returns-in-SuccessOutput
returns-in-SuccessOutput c = rw c.in-SuccessOutput.is refl

pub returns-in-FailureOutput : goal.returns-in-FailureOutput
returns-in-FailureOutput c = rw c.in-FailureOutput.is refl

pub returns-in-JunitStoreSuccessOutput : goal.returns-in-JunitStoreSuccessOutput
returns-in-JunitStoreSuccessOutput c =
    rw (c.in-JunitStoreSuccessOutput.is, c.then_some.ensures)
    (unreported (by_kind at.JunitStoreSuccessOutput) (λ has. stated_value has at.JunitStoreSuccessOutput) _ _ refl refl refl c.args.has_report)

pub returns-in-JunitStoreFailureOutput : goal.returns-in-JunitStoreFailureOutput
returns-in-JunitStoreFailureOutput c =
    rw (c.in-JunitStoreFailureOutput.is, c.then_some-in-JunitStoreFailureOutput.ensures)
    (unreported (by_kind at.JunitStoreFailureOutput) (λ has. stated_value has at.JunitStoreFailureOutput) _ _ refl refl refl c.args.has_report)

pub returns-in-JunitReportSkipped : goal.returns-in-JunitReportSkipped
returns-in-JunitReportSkipped c =
    rw (c.in-JunitReportSkipped.is, c.then_some-in-JunitReportSkipped.ensures)
    (unreported (by_kind at.JunitReportSkipped) (λ has. stated_value has at.JunitReportSkipped) _ _ refl refl refl c.args.has_report)

pub returns-in-JunitFlakyFailStatus : goal.returns-in-JunitFlakyFailStatus
returns-in-JunitFlakyFailStatus c =
    rw (c.in-JunitFlakyFailStatus.is, c.then_some-in-JunitFlakyFailStatus.ensures)
    (unreported (by_kind at.JunitFlakyFailStatus) (λ has. stated_value has at.JunitFlakyFailStatus) _ _ refl refl refl c.args.has_report)
