-- A test of a list, as a report lists it.
use Rattle.std.specs.Prelude.{◌≡◌, Bool, List, string_bytes}
use Rattle.std.specs.List.{AllZip}
use Rattle.nextest_elements.specs.declared.run_mode.NextestRunMode.{NextestRunMode}
use Rattle.nextest_engines.specs.Engines.{Test}
use Rattle.nextest_engines.specs.declared.queries.BuildPlatform.{BuildPlatform}
use Rattle.nextest_engines.specs.declared.queries.BuildPlatform.TheVariants as platforms
use Rattle.filter_inputs.specs.Lists.Lists.{ListTest}
use Rattle.nextest_settings.specs.Deciding.{QueryContext}
use Rattle.nextest_settings.specs.Profile.{EvaluatableModel}
use Rattle.nextest_settings.specs.Queries.{query_in, setting_origin, setting_value}
use Rattle.nextest_elements.specs.declared.setting.Setting.{Setting}
use Rattle.rinqebo_origins.specs.TestOrigins.{Basis, wrapping_id}
use Rattle.rinqebo_rules.specs.Runs.{IsRunReported, is_selected, runs_if, shows_runs}
use Rattle.rinqebo_origins.specs.Settings.{IsSettingReported, reported_settings}
use Rattle.rinqebo_request.specs.declared.request.RequestedSettings.{RequestedSettings}
use Rattle.rinqebo_report.specs.declared.report.BuiltFor.{BuiltFor}
use Rattle.rinqebo_report.specs.declared.report.BuiltFor.TheVariants as built_for
use Rattle.rinqebo_report.specs.declared.report.SettingRow.{SettingRow}
use Rattle.rinqebo_report.specs.declared.report.TestRows.{TestRows}

-- A report lists settings of a test in their order, each with the value that the profile gives it,
-- and with its origins.
abbrev pub AreSettingsReported : {M : Type 0} → Basis → QueryContext M → NextestRunMode
    → EvaluatableModel M → List Setting → List SettingRow → Type 0
AreSettingsReported basis query mode profile = AllZip
    (IsSettingReported basis (wrapping_id query profile) (setting_value query mode profile)
    (setting_origin query mode profile) mode)

-- The platform of a binary, as a report shows it.
abbrev pub shown_platform : BuildPlatform → BuiltFor
shown_platform platforms.Host = built_for.Host
shown_platform platforms.Target = built_for.Target

-- A report lists a test: its binary, its name, its platform, whether it runs, whether a list says
-- that it is ignored, and the settings that rules decide, or the requested ones.
pub record IsTestReported {M : Type 0} (basis : Basis) (query : QueryContext M)
    (mode : NextestRunMode) (profile : EvaluatableModel M) (asked : RequestedSettings)
    (listed : ListTest) (told : TestRows) : Type 0
  where
    pub binary : string_bytes told.binary ≡ listed.test.binary.binary_id
    pub name : string_bytes told.name ≡ listed.test.name
    pub platform : told.platform ≡ shown_platform listed.test.binary.platform
    pub run_reported : IsRunReported basis query profile listed.ignored told.runs
    pub run_shown : told.shows_runs
        ≡ shows_runs asked (runs_if (is_selected query profile) listed.ignored)
    pub ignored_reported : told.is_ignored ≡ listed.ignored
    pub settings_reported : AreSettingsReported basis query mode profile
        (reported_settings asked (setting_origin query mode profile)) told.settings.items

-- a report lists tests in their order, each as a profile gives it settings
abbrev pub AreTestsReported : {M : Type 0} → Basis → (M → Test → M → Bool) → NextestRunMode
    → EvaluatableModel M → RequestedSettings → List ListTest → List TestRows → Type 0
AreTestsReported basis matches mode profile asked = AllZip
    (λ t. IsTestReported basis (query_in matches profile t.test) mode profile asked t)
