-- The parts of tests that the filters of a profile use.
use Rattle.std.specs.Prelude.{◌≡◌, ◌||◌, ◌&&◌, ◌==◌, ℕ, List, Bool, false, length}
use Rattle.std.specs.List.{list_any}
use Rattle.std.specs.Option.{option_map_or}
use Rattle.filter_engine.specs.declared.compiling.FieldMatcher.{FieldMatcher}
use Rattle.filter_language.specs.Asks.{asks}
use Rattle.filter_language.specs.declared.filterset.Filterset.{Filterset}
use Rattle.filter_language.specs.declared.words.Field.{Field}
use Rattle.filter_language.specs.declared.words.Field.TheVariants as fields
use Rattle.nextest_engines.specs.declared.queries.BuildPlatform.{BuildPlatform}
use Rattle.nextest_settings.specs.Platforms.{EvaluatedRule, is_on}
use Rattle.nextest_settings.specs.Profile.{EvaluatableModel}
use Rattle.rinqebo_session.specs.Readings.{filter_meaning}
use Rattle.rinqebo_session.specs.declared.needs.Needs.{Needs}
use Rattle.rinqebo_session.specs.declared.test.CallerTest.{CallerTest}

-- whether a filter uses a field
abbrev pub filter_asks : Field → Filterset FieldMatcher → Bool
filter_asks field filter = asks field (filter_meaning filter)

-- whether a rule uses a field, for binaries of a platform: its platforms hold for them, and it has
-- a filter that does
abbrev pub rule_asks : {W : Type 0} → BuildPlatform → Field
    → EvaluatedRule (Filterset FieldMatcher) W → Bool
rule_asks platform field rule =
    is_on rule platform && option_map_or (filter_asks field) rule.filter false

-- Whether a filter of a profile uses a field, for binaries of a platform: its default filter, or
-- that of an override or a script rule whose platforms hold for them.
abbrev pub asked_on : EvaluatableModel (Filterset FieldMatcher) → BuildPlatform → Field → Bool
asked_on profile platform field =
    filter_asks field profile.default_filter.filter
    || (list_any (rule_asks platform field) profile.overrides
    || list_any (rule_asks platform field) profile.script_rules)

-- The parts that the filters of a profile use, for binaries of a platform. They use the package of
-- a binary by its name, and by what it depends on or what depends on it.
pub record AreNeeds (profile : EvaluatableModel (Filterset FieldMatcher)) (platform : BuildPlatform)
    (needs : Needs) : Type 0 where
  pub a_package : needs.package ≡ (asked_on profile platform fields.Package
      || (asked_on profile platform fields.Deps || asked_on profile platform fields.Rdeps))
  pub binary : needs.binary ≡ asked_on profile platform fields.BinaryId
  pub kind : needs.kind ≡ asked_on profile platform fields.Kind
  pub target : needs.target ≡ asked_on profile platform fields.BinaryName
  pub name : needs.name ≡ asked_on profile platform fields.TestName

-- whether a part is missing: filters use it, and the caller has none
abbrev pub is_missing : Bool → List ℕ → Bool
is_missing is_asked given = is_asked && (length given == 0)

-- whether a test lacks a part that filters use
abbrev pub lacks : Needs → CallerTest → Bool
lacks needs asked =
    is_missing needs.package asked.package.now
    || (is_missing needs.binary asked.binary.now
    || (is_missing needs.kind asked.kind.now
    || (is_missing needs.target asked.target.now
    || is_missing needs.name asked.name.now)))
