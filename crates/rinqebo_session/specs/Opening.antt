-- Profiles of a session.
use Rattle.std.specs.Prelude.{◌≡◌, ℕ, List, Option, None, Some, map, option_map, string_bytes, Result, Ok, Err, MatchResult}
use Rattle.std.specs.Str.{IsUtf8}
use Rattle.nextest_config.specs.ProfileError.{TellsMissing}
use Rattle.filter_engine.specs.Engine.{Filter}
use Rattle.filter_engine.specs.declared.compiling.FieldMatcher.{FieldMatcher}
use Rattle.filter_language.specs.declared.filterset.Filterset.{Filterset}
use Rattle.nextest_elements.specs.declared.test_group.TestGroupConfig.{TestGroupConfig}
use Rattle.nextest_engines.specs.declared.queries.BuildPlatform.TheVariants.{Host, Target}
use Rattle.nextest_inheritance.specs.Parents.{parents_in, IsChain}
use Rattle.nextest_load.specs.Config.{config_parents}
use Rattle.nextest_settings.specs.Profiles.Meaning.{configured_meaning, profile_meaning}
use Rattle.nextest_settings.specs.Profile.{Configured, EvaluatableModel, profile_of, profile_on}
use Rattle.nextest_settings.specs.Profiles.Profiles.{IsChainAndDefault}
use Rattle.nextest_sources.specs.WarningsView.{warnings_view}
use Rattle.nextest_tables.specs.FileTexts.{names_in, IsIn}
use Rattle.nextest_tables.specs.Written.{Name}
use Rattle.platform_language.specs.Expressions.{spec_view}
use Rattle.platform_language.specs.declared.expression.TargetSpec.{TargetSpec}
use Rattle.rinqebo_object_origins.specs.ObjectOrigins.{AreObjectOrigins}
use Rattle.rinqebo_objects.specs.Objects.{AreObjectsOf}
use Rattle.rinqebo_objects.specs.Scripts.{Directories}
use Rattle.rinqebo_objects.specs.declared.origins.ObjectOrigins.{ObjectOrigins}
use Rattle.rinqebo_request.specs.Files.Layers.{layer_view, layers_read}
use Rattle.rinqebo_request.specs.declared.files.layers.Layer.{Layer}
use Rattle.rinqebo_session.specs.Needs.{AreNeeds}
use Rattle.rinqebo_session.specs.Readings.{filter_meaning, holds_on}
use Rattle.rinqebo_session.specs.declared.failure.Failure.{Failure}
use Rattle.rinqebo_session.specs.declared.failure.OpenFailure.{OpenFailure}
use Rattle.rinqebo_session.specs.declared.failure.OpenFailure.TheVariants as opens
use Rattle.rinqebo_session.specs.declared.loading.Loaded.{Loaded}
use Rattle.rinqebo_session.specs.declared.profile.Group.{Group}
use Rattle.rinqebo_session.specs.declared.profile.Opened.{Opened}
use Rattle.rinqebo_session.specs.declared.profile.Profile.{Profile}
use Rattle.rinqebo_session.specs.declared.session.Session.{Session}
use Rattle.serde_json.specs.Data.{Data}
use Rattle.serde_json.specs.Written.{compact_text}

-- what was loaded, as profiles have it
abbrev pub read_in : Loaded → Configured (Filterset FieldMatcher) TargetSpec
read_in loaded = record {
  root = string_bytes loaded.files.paths.workspace_root;
  config = loaded.config.config;
  scripts = loaded.config.scripts;
}

-- a name of a profile is this one, and one of these
abbrev pub IsKnownName : List Name → Name → Name → Type 0
IsKnownName names name known = (known ≡ name) × IsIn names known

-- a group by its name
abbrev pub group_entry : Group → Name × Option TestGroupConfig
group_entry group = (group.name.now, Some (record { max_threads = group.threads }))

-- the directories that programs are relative to, if there is a target directory
abbrev pub directories_in : Loaded → Option Directories
directories_in loaded = option_map (λ target. record {
  root = string_bytes loaded.files.paths.workspace_root;
  target = string_bytes target;
}) loaded.target_directory

-- Origins are those of a profile of a name: they are looked up in the layers of the files, and in
-- the chain of the profile, as in a whole run.
pub record AreOriginsIn (loaded : Loaded) (name : Name) (profile : EvaluatableModel Filter)
    (origins : ObjectOrigins) : Type 0 where
  pub layers : List Layer
  pub are_layers : map layer_view layers ≡ layers_read loaded.files
  pub chain : List Name
  pub is_chain : IsChainAndDefault (parents_in (config_parents loaded.config.config)) name chain
  pub are : AreObjectOrigins (record { layers = layers; chain = chain }) profile origins

-- A text is that of the objects of a profile of a name, among the profiles of its configuration,
-- with where the values of the run and the groups come from. There is no list of tests.
pub record IsObjectsText (loaded : Loaded) (name : Name)
    (profile : EvaluatableModel (Filterset FieldMatcher)) (text : List ℕ) : Type 0 where
  pub origins : ObjectOrigins
  pub are_origins : AreOriginsIn loaded name (profile_meaning filter_meaning profile) origins
  pub value : Data
  pub are : AreObjectsOf profile.facts profile.default_filter.text
      (names_in loaded.config.config.profiles) (warnings_view loaded.warnings)
      (directories_in loaded) None (Some origins) value
  pub written : text ≡ compact_text value

-- A profile is that of a name: it is the one of the name's chain, on the platforms of the build, by
-- what its rules mean.
pub record IsEvaluated (loaded : Loaded) (name : Name)
    (profile : EvaluatableModel (Filterset FieldMatcher)) : Type 0 where
  pub chain : List Name
  pub is_chain : IsChain (parents_in (config_parents loaded.config.config)) name chain
  pub is_profile : profile_meaning filter_meaning profile
      ≡ profile_on holds_on loaded.platforms (profile_of
      (configured_meaning filter_meaning spec_view (read_in loaded)) name chain)

-- A profile of a configuration is open: it is the one of the name; its groups and wrappers are
-- those that are defined; what its filters use is known, for binaries of each platform; and its
-- objects are kept as a text.
pub record IsOpened (loaded : Loaded) (name : Name) (opened : Opened) : Type 0 where
  pub known : IsIn (names_in loaded.config.config.profiles) name
  pub is_profile : IsEvaluated loaded name opened.profile
  pub groups : map group_entry opened.groups.items ≡ opened.profile.facts.groups
  pub wrappers : map (λ id. id.now) opened.wrappers.items
      ≡ names_in opened.profile.facts.scripts.wrapper
  pub for_host : AreNeeds opened.profile Host opened.for_host
  pub for_target : AreNeeds opened.profile Target opened.for_target
  pub objects : IsObjectsText loaded name opened.profile (string_bytes opened.objects)

-- why a configuration has no profile of a name: it is none of its profiles, unless memory runs out
abbrev pub IsNotOpened : Loaded → Name → OpenFailure → Type 0
IsNotOpened loaded name opens.NotLoaded = ⊥
IsNotOpened loaded name opens.NotText = ⊥
IsNotOpened loaded name (opens.NotFound missing) =
    TellsMissing (names_in loaded.config.config.profiles) name missing
IsNotOpened loaded name opens.Memory = Unit {0}

-- a fact of what was loaded, where something was
abbrev pub IfLoaded : Result Loaded Failure → (Loaded → Type 0) → Type 0
IfLoaded (Ok loaded) P = P loaded
IfLoaded (Err failure) P = ⊥

-- nothing was loaded
abbrev pub IsEmpty : Result Loaded Failure → Type 0
IsEmpty (Ok loaded) = ⊥
IsEmpty (Err failure) = Unit {0}

-- why a session gives no profile: it is empty, the name is not a text, or there is none of the
-- name, unless memory runs out
abbrev pub IsOpenFailure : Session → Name → OpenFailure → Type 0
IsOpenFailure session name opens.NotLoaded = IsEmpty session.outcome
IsOpenFailure session name opens.NotText = ¬ IsUtf8 name
IsOpenFailure session name (opens.NotFound missing) = IfLoaded session.outcome
    (λ loaded. TellsMissing (names_in loaded.config.config.profiles) name missing)
IsOpenFailure session name opens.Memory = Unit {0}

-- A profile of a name is opened in a session, or it is not for this reason.
abbrev pub IsOpenedIn : Session → Name → Result Opened OpenFailure → Type 0
IsOpenedIn session name outcome =
    MatchResult outcome
    (λ opened. IfLoaded session.outcome (λ loaded. IsOpened loaded name opened))
    (IsOpenFailure session name)

-- a profile is that of a name in a session: it is open, or it holds why it is not
abbrev pub IsProfileIn : Session → Name → Profile → Type 0
IsProfileIn session name profile = IsOpenedIn session name profile.outcome
