-- What a run knows: the files that were read, and what the engines make of texts.
use Rattle.std.specs.Prelude.{◌≡◌, ◌⊎◌, option_map, map, Result, MatchResult}
use Rattle.filter_language.specs.Filtersets.{marks_view}
use Rattle.filter_language.specs.Leaves.{leaves}
use Rattle.filter_language.specs.declared.filterset.Filterset.{Filterset}
use Rattle.nextest_engines.specs.Readings.{Readings}
use Rattle.filter_engine.specs.Engine.{Filter, read_filter, everything, filter_holds, filter_holds_binary}
use Rattle.filter_engine.specs.declared.engine.NextestFilters.{NextestFilters}
use Rattle.filter_engine.specs.Compiling.{names_of}
use Rattle.filter_engine.specs.declared.compiling.FieldMatcher.{FieldMatcher}
use Rattle.nextest_load.specs.Accepted.{IsAccepted}
use Rattle.nextest_load.specs.Config.{config_of}
use Rattle.nextest_load.specs.Load.{Loaded}
use Rattle.nextest_load.specs.Meaning.{config_meaning}
use Rattle.nextest_load.specs.Scripts.{AreScriptsOf}
use Rattle.nextest_rules.specs.Definitions.{Features}
use Rattle.nextest_sources.specs.Endings.{IsMemory}
use Rattle.nextest_sources.specs.Inputs.{LoadInputs, sources_in}
use Rattle.nextest_sources.specs.Sources.{file_view, tool_file_view}
use Rattle.nextest_sources.specs.declared.error.ConfigParseError.{ConfigParseError}
use Rattle.platform_language.specs.Expressions.{Spec, spec_view}
use Rattle.platform_language.specs.Refusals.{spec_read}
use Rattle.platform_language.specs.Values.{spec_value}
use Rattle.platform_language.specs.declared.expression.TargetSpec.{TargetSpec}
use Rattle.platform_language.specs.Platforms.Platforms.{platform_view}
use Rattle.platform_language.specs.declared.platforms.Platform.{Platform}
use Rattle.rinqebo_request.specs.declared.files.gathering.Gathered.{Gathered}

-- the files of a load, as they were read
abbrev pub files_view : Gathered → LoadInputs
files_view gathered = record {
  shared = file_view gathered.paths.shared;
  explicit = option_map file_view gathered.config_file;
  organisation = option_map file_view gathered.organisation_file;
  tools = map tool_file_view gathered.tools.items;
}

-- what nextest's languages make of texts
abbrev pub readings : NextestFilters → Readings Filter Spec Platform
readings filters = record {
  read_filter = read_filter filters;
  read_spec = spec_read;
  match_all = everything;
  matches_test = filter_holds;
  matches_binary = filter_holds_binary;
  leaves = leaves;
  meets = λ spec platform. spec_value (platform_view platform) spec;
}

-- A load of files returns a configuration only if every written rule holds, and it refuses them,
-- unless memory ran out, only if some rule does not.
abbrev pub IfLoaded : {T : Type 0} → Readings Filter Spec Platform → Features → LoadInputs
    → Result T ConfigParseError → Type 0
IfLoaded engines features files r =
    MatchResult r (λ _. IsAccepted engines features files)
    (λ e. IsMemory e ⊎ (¬ IsAccepted engines features files))

-- What was loaded of files is what they mean, and its scripts are those that they define.
pub record IsLoadedFrom (engines : Readings Filter Spec Platform) (files : LoadInputs)
    (loaded : Loaded (Filterset FieldMatcher) TargetSpec) : Type 0 where
  pub means : config_meaning (marks_view names_of) spec_view loaded.config
      ≡ config_of engines (sources_in files)
  pub scripts : AreScriptsOf (sources_in files) loaded.scripts
