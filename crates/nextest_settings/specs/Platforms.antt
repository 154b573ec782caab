-- Rules on the platforms of a build, and the default filter that counts there.
use Rattle.std.specs.Prelude.{List, Bool, true, ◌&&◌, Option, None, Some, option_map, unwrap_or, if◌then◌else◌}
use Rattle.std.specs.Option.{option_or}
use Rattle.nextest_engines.specs.declared.queries.BuildPlatform.{BuildPlatform}
use Rattle.nextest_engines.specs.declared.queries.BuildPlatform.TheVariants.{Host, Target}
use Rattle.nextest_engines.specs.declared.queries.BuildPlatforms.{BuildPlatforms}
use Rattle.nextest_rules.specs.Rules.{Compiled, OverrideUse}
use Rattle.nextest_settings.specs.Chains.{FilterChoice, at_override, chosen_at, first_of}

-- a spec on a platform: none and an unknown value count as met
abbrev pub spec_holds : {K P : Type 0} → (K → P → Option Bool) → Option K → P → Bool
spec_holds meets None platform = true
spec_holds meets (Some spec) platform = unwrap_or (meets spec platform) true

-- the platform that a binary runs on: without a target, what is built for it runs on the host
abbrev pub runs_on : {P : Type 0} → BuildPlatforms P → BuildPlatform → P
runs_on platforms Host = platforms.host
runs_on platforms Target = unwrap_or platforms.target platforms.host

-- Specs hold on the platforms of a build: the host spec on the host, the target spec where the
-- binary runs.
abbrev pub specs_hold : {K P : Type 0} → (K → P → Option Bool) → BuildPlatforms P → BuildPlatform
    → (host target : Option K) → Bool
specs_hold meets platforms build host target =
    spec_holds meets host platforms.host && spec_holds meets target (runs_on platforms build)

-- the platforms of a rule hold
abbrev pub platforms_hold : {M K P W : Type 0} → (K → P → Option Bool) → BuildPlatforms P
    → BuildPlatform → Compiled M K W → Bool
platforms_hold meets platforms build rule = specs_hold meets platforms build rule.host rule.target

-- A rule on the platforms of a build: what its filter means, for which binaries its platforms hold,
-- and what it writes.
pub record EvaluatedRule (M W : Type 0) : Type 0 where
  pub filter : Option M
  pub for_host : Bool
  pub for_target : Bool
  pub writes : W

-- a rule on the platforms of a build
abbrev pub rule_on : {M K P W : Type 0} → (K → P → Option Bool) → BuildPlatforms P
    → Compiled M K W → EvaluatedRule M W
rule_on meets platforms rule = record {
  filter = rule.filter;
  for_host = platforms_hold meets platforms Host rule;
  for_target = platforms_hold meets platforms Target rule;
  writes = rule.writes;
}

-- What a rule says beside its platforms: its filter, and what it writes.
pub record RuleText (M W : Type 0) : Type 0 where
  pub filter : Option M
  pub writes : W

-- what a rule on the platforms of a build says beside them
abbrev pub rule_text : {M W : Type 0} → EvaluatedRule M W → RuleText M W
rule_text rule = record { filter = rule.filter; writes = rule.writes }

-- a value for binaries of the host, and one for those of the target
abbrev pub by_platform : Bool → Bool → BuildPlatform → Bool
by_platform for_host for_target Host = for_host
by_platform for_host for_target Target = for_target

-- whether the platforms of a rule hold for binaries of a platform
abbrev pub is_on : {M W : Type 0} → EvaluatedRule M W → BuildPlatform → Bool
is_on rule platform = by_platform rule.for_host rule.for_target platform

-- the default filter of an override, where its platforms hold for binaries of the target
abbrev pub filter_of_override : {M : Type 0} → EvaluatedRule M (OverrideUse M)
    → Option (FilterChoice M)
filter_of_override rule =
    if rule.for_target
    then option_map (chosen_at rule.writes.id.profile (at_override rule.writes.id.index))
    rule.writes.default_filter
    else None

-- The default filter that counts: that of the first override which has one and whose platforms
-- hold, else that of the nearest profile, else the one that matches everything.
abbrev pub default_filter_of : {M : Type 0} → List (EvaluatedRule M (OverrideUse M))
    → Option (FilterChoice M) → FilterChoice M → FilterChoice M
default_filter_of overrides nearest all =
    unwrap_or (option_or (first_of filter_of_override overrides) nearest) all
