-- A key is that of one setting.
use Rattle.std.proofs.Common.{◌≡◌, ◌∙◌, List, ℕ, Option, Some, find, refl, sym, ap}
use Rattle.std.specs.Str.{bytes_eq}
use Rattle.nextest_elements.specs.declared.run_mode.NextestRunMode.{NextestRunMode}
use Rattle.nextest_elements.specs.declared.run_mode.NextestRunMode.TheVariants as modes
use Rattle.nextest_elements.specs.Settings.{setting_name, settings}
use Rattle.nextest_elements.specs.declared.setting.Setting.{Setting}
use Rattle.nextest_elements.specs.declared.setting.Setting.TheVariants as at
use Rattle.rinqebo_keys.specs.Keys.{key_text}

-- the first setting with a key
abbrev setting_at : NextestRunMode → List ℕ → Option Setting
setting_at mode key = find (λ s. bytes_eq (key_text s mode) key) settings

-- the setting at the key of a setting
at_key : (s : Setting) (mode : NextestRunMode) → setting_at mode (key_text s mode) ≡ Some s
unfolding settings setting_name
at_key at.Priority modes.Test = refl
at_key at.ThreadsRequired modes.Test = refl
at_key at.RunWrapper modes.Test = refl
at_key at.RunExtraArgs modes.Test = refl
at_key at.Retries modes.Test = refl
at_key at.FlakyResult modes.Test = refl
at_key at.SlowTimeout modes.Test = refl
at_key at.LeakTimeout modes.Test = refl
at_key at.TestGroup modes.Test = refl
at_key at.SuccessOutput modes.Test = refl
at_key at.FailureOutput modes.Test = refl
at_key at.JunitStoreSuccessOutput modes.Test = refl
at_key at.JunitStoreFailureOutput modes.Test = refl
at_key at.JunitReportSkipped modes.Test = refl
at_key at.JunitFlakyFailStatus modes.Test = refl
at_key at.Priority modes.Benchmark = refl
at_key at.ThreadsRequired modes.Benchmark = refl
at_key at.RunWrapper modes.Benchmark = refl
at_key at.RunExtraArgs modes.Benchmark = refl
at_key at.Retries modes.Benchmark = refl
at_key at.FlakyResult modes.Benchmark = refl
at_key at.SlowTimeout modes.Benchmark = refl
at_key at.LeakTimeout modes.Benchmark = refl
at_key at.TestGroup modes.Benchmark = refl
at_key at.SuccessOutput modes.Benchmark = refl
at_key at.FailureOutput modes.Benchmark = refl
at_key at.JunitStoreSuccessOutput modes.Benchmark = refl
at_key at.JunitStoreFailureOutput modes.Benchmark = refl
at_key at.JunitReportSkipped modes.Benchmark = refl
at_key at.JunitFlakyFailStatus modes.Benchmark = refl

-- settings with one key are one
pub one_key : (s t : Setting) (mode : NextestRunMode) → key_text s mode ≡ key_text t mode → s ≡ t
one_key s t mode same =
    let found : Some s ≡ Some t = sym (at_key s mode) ∙ ap (setting_at mode) same ∙ at_key t mode in
    cc
