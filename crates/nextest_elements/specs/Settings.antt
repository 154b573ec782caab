-- What settings there are: their names, and their order.
use Rattle.std.specs.Prelude.{◌≡◌, ℕ, List, [], ◌∷◌, Some, slice_get, codes}
use Rattle.nextest_elements.specs.declared.setting.Setting.{Setting}
use Rattle.nextest_elements.specs.declared.setting.Setting.TheVariants as at

-- all settings, in the order in which rows show them
unfoldable pub settings : List Setting
settings =
    at.Priority ∷ at.ThreadsRequired ∷ at.RunWrapper ∷ at.RunExtraArgs ∷ at.Retries
    ∷ at.FlakyResult ∷ at.SlowTimeout ∷ at.LeakTimeout ∷ at.TestGroup ∷ at.SuccessOutput
    ∷ at.FailureOutput ∷ at.JunitStoreSuccessOutput ∷ at.JunitStoreFailureOutput
    ∷ at.JunitReportSkipped ∷ at.JunitFlakyFailStatus ∷ []

-- the place of a setting among all
abbrev pub index_of : Setting → ℕ
index_of at.Priority = 0
index_of at.ThreadsRequired = 1
index_of at.RunWrapper = 2
index_of at.RunExtraArgs = 3
index_of at.Retries = 4
index_of at.FlakyResult = 5
index_of at.SlowTimeout = 6
index_of at.LeakTimeout = 7
index_of at.TestGroup = 8
index_of at.SuccessOutput = 9
index_of at.FailureOutput = 10
index_of at.JunitStoreSuccessOutput = 11
index_of at.JunitStoreFailureOutput = 12
index_of at.JunitReportSkipped = 13
index_of at.JunitFlakyFailStatus = 14

-- a setting is among settings once, at one place
pub record StandsOnce (ss : List Setting) (s : Setting) : Type 0 where
  pub place : ℕ
  pub there : slice_get ss place ≡ Some s
  pub alone : (other : ℕ) → slice_get ss other ≡ Some s → other ≡ place

-- the name of a setting, as files write it and rows show it
unfoldable pub setting_name : Setting → List ℕ
setting_name at.Priority = codes "priority"
setting_name at.ThreadsRequired = codes "threads-required"
setting_name at.RunWrapper = codes "run-wrapper"
setting_name at.RunExtraArgs = codes "run-extra-args"
setting_name at.Retries = codes "retries"
setting_name at.FlakyResult = codes "flaky-result"
setting_name at.SlowTimeout = codes "slow-timeout"
setting_name at.LeakTimeout = codes "leak-timeout"
setting_name at.TestGroup = codes "test-group"
setting_name at.SuccessOutput = codes "success-output"
setting_name at.FailureOutput = codes "failure-output"
setting_name at.JunitStoreSuccessOutput = codes "junit-store-success-output"
setting_name at.JunitStoreFailureOutput = codes "junit-store-failure-output"
setting_name at.JunitReportSkipped = codes "junit-report-skipped"
setting_name at.JunitFlakyFailStatus = codes "junit-flaky-fail-status"
