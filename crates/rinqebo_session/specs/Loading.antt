-- What a request's files denote.
use Rattle.std.specs.Prelude.{◌≡◌, ◌≢◌, ◌⊎◌, ℕ, List, [], Bool, None, Some, Result, Ok, Err, map, option_map, string_bytes, unwrap_or}
use Rattle.std.specs.Str.{IsUtf8}
use Rattle.filter_language.specs.declared.filterset.Filterset.{Filterset}
use Rattle.nextest_elements.specs.declared.experimental.ConfigExperimental.{ConfigExperimental}
use Rattle.nextest_elements.specs.declared.experimental.ConfigExperimental.TheVariants.{SetupScripts, WrapperScripts}
use Rattle.nextest_engines.specs.Readings.{Readings}
use Rattle.filter_engine.specs.Engine.{Filter}
use Rattle.filter_engine.specs.declared.compiling.FieldMatcher.{FieldMatcher}
use Rattle.filter_engine.specs.declared.engine.NextestFilters.{NextestFilters}
use Rattle.nextest_load.specs.Load.{IsLoad, Loaded as LoadedConfig}
use Rattle.nextest_load.specs.Meaning.{loaded_meaning}
use Rattle.nextest_rules.specs.Definitions.{Features}
use Rattle.nextest_sources.specs.Inputs.{LoadInputs}
use Rattle.nextest_sources.specs.Sources.{InputFile, file_view, tool_file_view}
use Rattle.nextest_sources.specs.Warnings.{Warning}
use Rattle.nextest_sources.specs.WarningsView.{warnings_view}
use Rattle.nextest_sources.specs.declared.error.ConfigParseError.{ConfigParseError}
use Rattle.platform_language.specs.Expressions.{Spec, spec_view}
use Rattle.platform_language.specs.declared.expression.TargetSpec.{TargetSpec}
use Rattle.platform_language.specs.declared.platforms.Platform.{Platform}
use Rattle.rinqebo_forms.specs.Features.{AreFeaturesBy, tree_read}
use Rattle.rinqebo_forms.specs.Machines.{AreFiltersFor, IsMetadataFault, ArePlatformsFor, IsBuildRefused}
use Rattle.rinqebo_forms.specs.Requests.{RequestText, request_of}
use Rattle.rinqebo_forms.specs.declared.fault.RequestFault.TheVariants.{Memory as request_memory}
use Rattle.rinqebo_forms.specs.declared.machines.EngineFault.{EngineFault}
use Rattle.rinqebo_forms.specs.declared.request.Switches.{Switches}
use Rattle.rinqebo_request.specs.declared.files.gathering.Gathered.{Gathered}
use Rattle.rinqebo_session.specs.Readings.{filter_meaning, readings}
use Rattle.rinqebo_session.specs.declared.failure.Failure.{Failure}
use Rattle.rinqebo_session.specs.declared.failure.Failure.TheVariants as failures
use Rattle.rinqebo_session.specs.declared.loading.Configured.{Configured}
use Rattle.rinqebo_session.specs.declared.loading.Loaded.{Loaded}

-- whether a feature is switched on
abbrev pub is_on : Switches → ConfigExperimental → Bool
is_on switches SetupScripts = switches.setup_scripts
is_on switches WrapperScripts = switches.wrapper_scripts

-- the files of a request
abbrev pub files_of : RequestText → LoadInputs
files_of asked = record {
  shared = asked.shared;
  explicit = asked.config_file;
  organisation = asked.organisation_file;
  tools = asked.tools;
}

-- the repository's file: the one that a user named, or else its own
abbrev pub repository_file : RequestText → InputFile
repository_file asked = unwrap_or asked.config_file asked.shared

-- The features of a load: those that the request switches on, and those that the repository's file
-- enables, as in a whole run.
abbrev pub AreFeaturesFor : RequestText → Features → Type 0
AreFeaturesFor asked features =
    AreFeaturesBy (is_on asked.features) (tree_read (repository_file asked).outcome) features

-- what a load of a request returns
abbrev pub Answer : Type 0
Answer = Result (LoadedConfig (Filterset FieldMatcher) TargetSpec) ConfigParseError

-- What a load returns for a request, by engines and features, with warnings: all that a load
-- promises, over the request's files.
abbrev pub LoadsBy : Readings Filter Spec Platform → Features → RequestText → List Warning → Answer
    → Type 0
LoadsBy engines features asked warnings answer =
    IsLoad (loaded_meaning filter_meaning spec_view) engines features (files_of asked) [] warnings
    answer

-- The engines and the features with which a request is loaded: the filters of its metadata, and the
-- features that it and the repository's file switch on.
pub record LoadsWith (asked : RequestText) (warnings : List Warning) (answer : Answer) : Type 0
  where
    pub filters : NextestFilters
    pub are_filters : AreFiltersFor asked.metadata filters
    pub features : Features
    pub are_features : AreFeaturesFor asked features
    pub loads : LoadsBy (readings filters) features asked warnings answer

-- A configuration is what a request is for: the load of its files returns it with the warnings, and
-- the platforms are those of its machines.
pub record IsConfiguredBy (asked : RequestText) (configured : Configured) : Type 0 where
  pub loads : LoadsWith asked (warnings_view configured.warnings) (Ok configured.config)
  pub platforms : ArePlatformsFor asked.host asked.target configured.platforms

-- files that are kept, as a load is given them
abbrev pub kept_files : Gathered → LoadInputs
kept_files files = record {
  shared = file_view files.paths.shared;
  explicit = option_map file_view files.config_file;
  organisation = option_map file_view files.organisation_file;
  tools = map tool_file_view files.tools.items;
}

-- The files that are kept are those of a request: its root, and its sources.
pub record AreFilesOf (asked : RequestText) (files : Gathered) : Type 0 where
  pub root : string_bytes files.paths.workspace_root ≡ asked.root
  pub sources : kept_files files ≡ files_of asked

-- What was loaded is what a request is for: the load of its files returns the configuration with
-- the warnings, the platforms are those of its machines, its files are kept, and the target
-- directory is its own.
pub record IsLoadedBy (asked : RequestText) (loaded : Loaded) : Type 0 where
  pub loads : LoadsWith asked (warnings_view loaded.warnings) (Ok loaded.config)
  pub platforms : ArePlatformsFor asked.host asked.target loaded.platforms
  pub files : AreFilesOf asked loaded.files
  pub target_directory :
      option_map string_bytes loaded.target_directory ≡ asked.target_directory

-- a request has no engines for this fault: of its metadata, of its host or of its target
abbrev pub IsEngineFault : RequestText → EngineFault → Type 0
IsEngineFault asked fault =
    IsMetadataFault asked.metadata fault ⊎ IsBuildRefused asked.host asked.target fault

-- why a request that is understood has no configuration
abbrev pub IsFailureBy : RequestText → Failure → Type 0
IsFailureBy asked failures.NotText = ⊥
IsFailureBy asked (failures.Request fault) = ⊥
IsFailureBy asked (failures.Engines fault) = IsEngineFault asked fault
IsFailureBy asked (failures.Refused error) =
    (warnings : List Warning) × LoadsWith asked warnings (Err error)
IsFailureBy asked failures.Memory = Unit {0}

-- What was loaded is what the bytes of a request are for.
pub record IsLoadedFrom (request : List ℕ) (loaded : Loaded) : Type 0 where
  pub asked : RequestText
  pub reads : request_of request ≡ Some asked
  pub is_loaded : IsLoadedBy asked loaded

-- a request that is understood fails for this
abbrev pub FailsUnderstood : List ℕ → Failure → Type 0
FailsUnderstood request failure =
    (asked : RequestText) × (request_of request ≡ Some asked) × IsFailureBy asked failure

-- why the bytes of a request have no configuration: they are not valid UTF-8, they are not
-- understood, or the load fails, unless memory runs out
abbrev pub IsFailureOf : List ℕ → Failure → Type 0
IsFailureOf request failures.NotText = ¬ IsUtf8 request
IsFailureOf request (failures.Request fault) = fault ≢ request_memory → request_of request ≡ None
IsFailureOf request (failures.Engines fault) = FailsUnderstood request (failures.Engines fault)
IsFailureOf request (failures.Refused error) = FailsUnderstood request (failures.Refused error)
IsFailureOf request failures.Memory = Unit {0}
