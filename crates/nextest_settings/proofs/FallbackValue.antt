-- The fallback of a setting is the stated value, or else what the nearest profile writes.
use Rattle.std.proofs.Common.{◌≡◌, ℕ, List, [], ◌∷◌, Bool, true, false, Option, None, Some, is_some, refl, sym}
use Rattle.std.specs.Option.{option_or}
use Rattle.nextest_elements.specs.declared.run_mode.NextestRunMode.{NextestRunMode}
use Rattle.nextest_elements.specs.declared.run_mode.NextestRunMode.TheVariants.{Test, Benchmark}
use Rattle.nextest_tables.specs.Written.{WrittenFields}
use Rattle.nextest_settings.specs.Settings.{fallback_of, if_reported, report_path}
use Rattle.nextest_settings.specs.SettingValues.{profile_sets, stated_value}
use Rattle.nextest_settings.specs.Values.{nearest}
use Rattle.nextest_elements.specs.declared.setting.Setting.{Setting}
use Rattle.nextest_elements.specs.declared.setting.Setting.TheVariants as at

-- none of some profiles writes what no profile writes
unwritten : {X : Type 0} (fs : List WrittenFields) → ◌≡◌ {A = Option X} (nearest (λ f. None) fs) None
unwritten [] = refl
unwritten (f ∷ fs) = unwritten fs

-- what a report stores, by whether one is written
reported : {X : Type 0} (stated : Bool → Option X) (path : Option (List ℕ)) (stored : Option X) (nothing : X)
    → stated false ≡ Some nothing → stated true ≡ None
    → if_reported path stored nothing ≡ option_or (stated (is_some path)) stored
reported stated None stored nothing without with = rw without refl
reported stated (Some p) stored nothing without with = rw with refl

pub fallback_is : (fs : List WrittenFields) (mode : NextestRunMode) (s : Setting)
    → fallback_of fs mode s ≡ option_or (stated_value (is_some (report_path fs)) s)
    (nearest (λ f. profile_sets f mode s) fs)
fallback_is fs mode at.Priority = refl
fallback_is fs mode at.ThreadsRequired = refl
fallback_is fs mode at.RunWrapper = sym (unwritten fs)
fallback_is fs mode at.RunExtraArgs = refl
fallback_is fs mode at.Retries = refl
fallback_is fs mode at.FlakyResult = refl
fallback_is fs Test at.SlowTimeout = refl
fallback_is fs Benchmark at.SlowTimeout = refl
fallback_is fs mode at.LeakTimeout = refl
fallback_is fs mode at.TestGroup = refl
fallback_is fs mode at.SuccessOutput = refl
fallback_is fs mode at.FailureOutput = refl
fallback_is fs mode at.JunitStoreSuccessOutput =
    reported (λ has. stated_value has at.JunitStoreSuccessOutput) (report_path fs) _ _ refl refl
fallback_is fs mode at.JunitStoreFailureOutput =
    reported (λ has. stated_value has at.JunitStoreFailureOutput) (report_path fs) _ _ refl refl
fallback_is fs mode at.JunitReportSkipped =
    reported (λ has. stated_value has at.JunitReportSkipped) (report_path fs) _ _ refl refl
fallback_is fs mode at.JunitFlakyFailStatus =
    reported (λ has. stated_value has at.JunitFlakyFailStatus) (report_path fs) _ _ refl refl
