-- The settings of a test as numbers, as a profile returns them.
use Rattle.std.specs.Prelude.{◌≡◌, ◌≢◌, ◌↔◌, ℕ, List, Option, None, Some, option_map, length, position, unwrap_or, slice_get, Result, Ok, Err}
use Rattle.std.specs.Borrow.{Bor}
use Rattle.std.specs.Str.{bytes_eq}
use Rattle.nextest_elements.specs.TestGroup.{custom_group_text}
use Rattle.nextest_elements.specs.declared.run_mode.NextestRunMode.{NextestRunMode}
use Rattle.nextest_elements.specs.declared.test_group.TestGroup.{TestGroup}
use Rattle.nextest_elements.specs.declared.test_group.TestGroup.TheVariants as groups
use Rattle.nextest_elements.specs.declared.test_threads.TestThreads.{TestThreads}
use Rattle.nextest_engines.specs.Engines.{Test}
use Rattle.filter_engine.specs.Engine.{filter_holds}
use Rattle.nextest_settings.specs.Profiles.Meaning.{profile_meaning}
use Rattle.nextest_settings.specs.Queries.{query_in, setting_value}
use Rattle.nextest_settings.specs.Settings.{ValueOf}
use Rattle.nextest_elements.specs.declared.setting.Setting.{Setting}
use Rattle.nextest_elements.specs.declared.setting.Setting.TheVariants as at
use Rattle.rinqebo_forms.specs.Numbers.{flag_number, retry_numbers, thread_numbers, slow_numbers, leak_numbers, output_number, flaky_number, report_number, status_number, group_numbers}
use Rattle.rinqebo_session.specs.Asking.{IsFaultIn, IsKnownTest, fault_status}
use Rattle.rinqebo_session.specs.Readings.{filter_meaning}
use Rattle.rinqebo_session.specs.Sizes.{settings_size, test_size}
use Rattle.rinqebo_session.specs.Statuses.{open_status}
use Rattle.rinqebo_session.specs.declared.failure.OpenFailure.{OpenFailure}
use Rattle.rinqebo_session.specs.declared.profile.Group.{Group}
use Rattle.rinqebo_session.specs.declared.profile.Opened.{Opened}
use Rattle.rinqebo_session.specs.declared.profile.Profile.{Profile}
use Rattle.rinqebo_session.specs.declared.settings.SettingNumbers.{SettingNumbers}
use Rattle.rinqebo_session.specs.declared.settings.TheConstants.{NO_NAME, UNDEFINED_NAME}
use Rattle.rinqebo_session.specs.declared.status.TheConstants.{BAD_SIZE, DONE}
use Rattle.rinqebo_session.specs.declared.test.CallerTest.{CallerTest}
use Rattle.rinqebo_session.specs.declared.test.TestFault.{TestFault}

-- the index of the group of a test among those that the configuration defines
abbrev pub group_index : List Group → TestGroup → ℕ
group_index known groups.Global = NO_NAME
group_index known (groups.Custom group) =
    unwrap_or (position (λ g. bytes_eq g.name.now (custom_group_text group)) known) UNDEFINED_NAME

-- the index of a script among the wrappers that the configuration defines
abbrev pub wrapper_index : List (Bor (List ℕ)) → Option (List ℕ) → ℕ
wrapper_index known None = NO_NAME
wrapper_index known (Some id) =
    unwrap_or (position (λ name. bytes_eq name.now id) known) UNDEFINED_NAME

-- how many tests of the group of an index run at a time, if there is one
abbrev pub threads_at : List Group → ℕ → Option TestThreads
threads_at known index = option_map (λ g. g.threads) (slice_get known index)

-- Numbers are those of settings, where the configuration defines these groups and wrappers.
pub record AreNumbersOf (known : List Group) (wrappers : List (Bor (List ℕ)))
    (value : (s : Setting) → Option (ValueOf s)) (n : SettingNumbers) : Type 0 where
  pub priority : option_map (λ p. p.0) (value at.Priority) ≡ Some n.priority
  pub threads_required :
      option_map thread_numbers (value at.ThreadsRequired) ≡ Some n.threads_required
  pub run_wrapper : wrapper_index wrappers (value at.RunWrapper) ≡ n.run_wrapper
  pub run_extra_args : option_map length (value at.RunExtraArgs) ≡ Some n.run_extra_args
  pub retries : option_map retry_numbers (value at.Retries) ≡ Some n.retries
  pub flaky_result : option_map flaky_number (value at.FlakyResult) ≡ Some n.flaky_result
  pub slow_timeout : option_map slow_numbers (value at.SlowTimeout) ≡ Some n.slow_timeout
  pub leak_timeout : option_map leak_numbers (value at.LeakTimeout) ≡ Some n.leak_timeout
  pub test_group : option_map (group_index known) (value at.TestGroup) ≡ Some n.test_group
  pub group_threads : n.group_threads ≡ group_numbers (threads_at known n.test_group)
  pub success_output : option_map output_number (value at.SuccessOutput) ≡ Some n.success_output
  pub failure_output : option_map output_number (value at.FailureOutput) ≡ Some n.failure_output
  pub store_success : option_map flag_number (value at.JunitStoreSuccessOutput)
      ≡ Some n.junit_store_success_output
  pub store_failure : option_map flag_number (value at.JunitStoreFailureOutput)
      ≡ Some n.junit_store_failure_output
  pub report_skipped :
      option_map report_number (value at.JunitReportSkipped) ≡ Some n.junit_report_skipped
  pub fail_status : option_map status_number (value at.JunitFlakyFailStatus)
      ≡ Some n.junit_flaky_fail_status

-- Numbers are those of a test in a profile: those of the settings that the profile gives to it, and
-- whether its default filter matches it.
pub record IsAnswerOf (opened : Opened) (asked : CallerTest) (n : SettingNumbers) : Type 0 where
  pub size : n.size ≡ settings_size
  pub test : Test
  pub mode : NextestRunMode
  pub is_known : IsKnownTest opened asked test mode
  pub numbers : let profile = profile_meaning filter_meaning opened.profile in
      AreNumbersOf opened.groups.items opened.wrappers.items
      (setting_value (query_in filter_holds profile test) mode profile) n
  pub in_default_filter : let filter = filter_meaning opened.profile.default_filter.filter in
      n.in_default_filter ≡ flag_number (filter_holds filter test filter)

-- An open profile returns the numbers of a test; or the test is not understood or lacks a part that
-- a filter uses, and the status says so.
pub record ReturnsTest (opened : Opened) (asked : CallerTest) (n : SettingNumbers) (status : ℕ)
    : Type 0 where
  pub answered : status ≡ DONE → IsAnswerOf opened asked n
  pub refused : status ≢ DONE
      → (fault : TestFault) × IsFaultIn opened asked fault × (status ≡ fault_status fault)

-- what a profile returns; where it is not open, the status says why
abbrev pub ReturnsBy : Result Opened OpenFailure → CallerTest → SettingNumbers → ℕ → Type 0
ReturnsBy (Ok opened) asked n status = ReturnsTest opened asked n status
ReturnsBy (Err failure) asked n status = status ≡ open_status failure

-- the sizes in a test and in settings are those of this version
abbrev pub AreSized : CallerTest → SettingNumbers → Type 0
AreSized asked old = (asked.size ≡ test_size) × (old.size ≡ settings_size)

-- A profile returns the numbers of a test: where a size is not this version's, and nowhere else,
-- the status says so; and where it returns none, the settings stay as they were.
pub record ReturnsNumbers (profile : Profile) (asked : CallerTest) (old new : SettingNumbers)
    (status : ℕ) : Type 0 where
  pub sized : AreSized asked old → ReturnsBy profile.outcome asked new status
  pub bad_size : (status ≡ BAD_SIZE) ↔ (¬ AreSized asked old)
  pub kept : status ≢ DONE → new ≡ old
