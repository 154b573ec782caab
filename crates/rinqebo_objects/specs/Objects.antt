-- What a profile says for a whole run, and the objects of it that a runner needs.
use Rattle.std.specs.Prelude.{◌≡◌, ℕ, List, Option, Some, codes, map, option_map, string_bytes}
use Rattle.nextest_elements.specs.StatusLevel.{final_status_level_text, status_level_text}
use Rattle.nextest_elements.specs.declared.run_mode.NextestRunMode.TheVariants.{Benchmark, Test}
use Rattle.nextest_settings.specs.Profiles.Junit.{IsReportWhereSet}
use Rattle.nextest_settings.specs.Profile.{ProfileFacts}
use Rattle.nextest_settings.specs.Settings.{global_timeout_in}
use Rattle.nextest_settings.specs.Values.{nearest}
use Rattle.nextest_sources.specs.Warnings.{Warning}
use Rattle.nextest_tables.specs.Written.{Name}
use Rattle.rinqebo_objects.specs.Origins.{optional_origins_data}
use Rattle.rinqebo_objects.specs.Scripts.{Directories, group_data, setup_script_data, wrapper_script_data}
use Rattle.rinqebo_objects.specs.Used.{Used, wrappers_used}
use Rattle.rinqebo_objects.specs.Values.{global_timeout_data, max_fail_data, optional_data, report_data, threads_data}
use Rattle.rinqebo_objects.specs.WarningObjects.{warnings_data}
use Rattle.rinqebo_objects.specs.declared.origins.ObjectOrigins.{ObjectOrigins}
use Rattle.rinqebo_objects.specs.declared.run.RunSettings.{RunSettings}
use Rattle.rinqebo_report.specs.Documents.{list_data}
use Rattle.serde_json.specs.Data.{Data, string, object, Members, no_members, member, put}

-- Values are those that a profile has for a whole run, with a default filter of this text.
pub record IsRunOf (facts : ProfileFacts) (filter : List ℕ) (run : RunSettings) : Type 0 where
  pub profile : run.profile.now ≡ facts.name
  pub inherits : option_map (λ parent. parent.now) run.inherits ≡ facts.parent
  pub test_threads : nearest (λ f. f.test_threads) facts.fields ≡ Some run.test_threads
  pub max_fail : nearest (λ f. f.max_fail) facts.fields ≡ Some run.max_fail
  pub global_timeout : global_timeout_in facts.fields Test ≡ Some run.global_timeout
  pub benchmark_timeout : global_timeout_in facts.fields Benchmark ≡ Some run.benchmark_timeout
  pub status_level : nearest (λ f. f.status_level) facts.fields ≡ Some run.status_level
  pub final_status_level :
      nearest (λ f. f.final_status_level) facts.fields ≡ Some run.final_status_level
  pub default_filter : run.default_filter.now ≡ filter
  pub junit : IsReportWhereSet facts run.junit
  pub store_dir : Some run.store_dir.now ≡ facts.store_dir
  pub run_extra_args :
      nearest (λ f. f.run_extra_args) facts.fields ≡ Some (map string_bytes run.run_extra_args.now)

-- members, with what bounds a run
abbrev pub with_bounds : RunSettings → Members → Members
with_bounds run members =
    put (codes "test-threads") (threads_data run.test_threads)
    (put (codes "max-fail") (max_fail_data run.max_fail)
    (put (codes "global-timeout") (global_timeout_data run.global_timeout run.benchmark_timeout)
    members))

-- members, with what a run shows and stores
abbrev pub with_output : RunSettings → Members → Members
with_output run members =
    put (codes "store-dir") (string run.store_dir.now)
    (put (codes "status-level") (string (status_level_text run.status_level))
    (put (codes "junit") (optional_data report_data run.junit)
    (put (codes "final-status-level") (string (final_status_level_text run.final_status_level))
    members)))

-- members, with the names of profiles, the default filter, and the arguments of tests where no rule
-- says so
abbrev pub with_names : RunSettings → List Name → Members → Members
with_names run profiles members =
    put (codes "run-extra-args") (list_data string (map string_bytes run.run_extra_args.now))
    (put (codes "profiles") (list_data string profiles)
    (put (codes "profile") (string run.profile.now)
    (put (codes "inherits") (optional_data string (option_map (λ parent. parent.now) run.inherits))
    (put (codes "default-filter") (string run.default_filter.now) members))))

-- what a profile says for a whole run, among profiles of these names
abbrev pub run_data : RunSettings → List Name → Data
run_data run profiles =
    object (with_bounds run (with_output run (with_names run profiles no_members)))

-- the objects of a profile, with the values that it has for a whole run, and with where these and
-- its groups come from
abbrev pub objects_data : ProfileFacts → RunSettings → List Name → List Warning → Option Directories
    → Option Used → Option ObjectOrigins → Data
objects_data facts run profiles warnings directories used origins =
    object (member (codes "findings") (warnings_data warnings)
    (member (codes "groups") (list_data group_data facts.groups)
    (member (codes "origins") (optional_origins_data origins)
    (member (codes "run") (run_data run profiles)
    (member (codes "setup-scripts")
    (list_data (setup_script_data directories used) facts.scripts.setup)
    (member (codes "wrappers")
    (list_data (wrapper_script_data directories) (wrappers_used used facts.scripts.wrapper))
    no_members))))))

-- A value is the objects of a profile with a default filter of this text, among profiles of these
-- names, with the warnings of the load, with what a list uses of its scripts, and with where the
-- values of the run and the groups come from, if that is given.
pub record AreObjectsOf (facts : ProfileFacts) (filter : List ℕ) (profiles : List Name)
    (warnings : List Warning) (directories : Option Directories) (used : Option Used)
    (origins : Option ObjectOrigins) (value : Data) : Type 0 where
  pub run : RunSettings
  pub is_run : IsRunOf facts filter run
  pub same : value ≡ objects_data facts run profiles warnings directories used origins
