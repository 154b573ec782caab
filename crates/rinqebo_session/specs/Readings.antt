-- What nextest's languages make of texts.
use Rattle.std.specs.Prelude.{Bool, Option}
use Rattle.filter_language.specs.Filtersets.{marks_view}
use Rattle.filter_language.specs.Leaves.{leaves}
use Rattle.filter_language.specs.declared.filterset.Filterset.{Filterset}
use Rattle.nextest_engines.specs.Readings.{Readings}
use Rattle.filter_engine.specs.Engine.{Filter, read_filter, everything, filter_holds, filter_holds_binary}
use Rattle.filter_engine.specs.declared.engine.NextestFilters.{NextestFilters}
use Rattle.filter_engine.specs.Compiling.{names_of}
use Rattle.filter_engine.specs.declared.compiling.FieldMatcher.{FieldMatcher}
use Rattle.platform_language.specs.Expressions.{Spec}
use Rattle.platform_language.specs.Refusals.{spec_read}
use Rattle.platform_language.specs.Values.{spec_value}
use Rattle.platform_language.specs.Platforms.Platforms.{platform_view}
use Rattle.platform_language.specs.declared.platforms.Platform.{Platform}

-- what a filter means
abbrev pub filter_meaning : Filterset FieldMatcher → Filter
filter_meaning = marks_view names_of

-- whether an expression of platforms holds on a platform, if that is known
abbrev pub holds_on : Spec → Platform → Option Bool
holds_on spec platform = spec_value (platform_view platform) spec

-- what the languages make of texts
abbrev pub readings : NextestFilters → Readings Filter Spec Platform
readings filters = record {
  read_filter = read_filter filters;
  read_spec = spec_read;
  match_all = everything;
  matches_test = filter_holds;
  matches_binary = filter_holds_binary;
  leaves = leaves;
  meets = holds_on;
}
