-- What does not compile: which rules have no constraint, and which texts the engines refuse.
use Rattle.std.specs.Prelude.{ℕ, List, ◌++◌, Bool, false, not, ◌&&◌, ◌||◌, Option, None, Some, option_map, option_and_then, option_to_list, is_some, flat_map, Result, if◌then◌else◌}
use Rattle.std.specs.List.{enumerate_from}
use Rattle.std.specs.Option.{option_or}
use Rattle.std.specs.Result.{result_err}
use Rattle.nextest_engines.specs.Engines.{RefusalText}
use Rattle.nextest_engines.specs.Readings.{Readings}
use Rattle.nextest_engines.specs.declared.queries.FiltersetKind.{FiltersetKind}
use Rattle.nextest_engines.specs.declared.queries.FiltersetKind.TheVariants.{OverrideFilter, DefaultFilter}
use Rattle.nextest_tables.specs.FileTexts.{PlatformText, OverrideText, ScriptRuleText, ProfileText}
use Rattle.nextest_tables.specs.Written.{Name}
use Rattle.nextest_sources.specs.Causes.{CompileCause, no_constraint, two_filters, parse_refusals, RuleSection, in_default_filter, in_override, in_script_rule, CompileFault}
use Rattle.nextest_inheritance.specs.Names.{default_first}

-- the refusal of a text, if there is a text and it is refused
abbrev pub refusal_of : {M : Type 0} → (List ℕ → Result M RefusalText) → Option (List ℕ)
    → Option RefusalText
refusal_of read o = option_and_then (λ t. result_err (read t)) o

-- the refusal of the text of a filter
abbrev pub filter_refusal : {M K P : Type 0} → Readings M K P → FiltersetKind → Option (List ℕ)
    → Option RefusalText
filter_refusal engines kind = refusal_of (engines.read_filter kind)

-- the refusal of a platform spec
abbrev pub spec_refusal : {M K P : Type 0} → Readings M K P → Option (List ℕ) → Option RefusalText
spec_refusal engines = refusal_of engines.read_spec

-- the refusals of texts of a rule: of its host, its target, its filter and its default filter
pub record TextRefusals : Type 0 where
  pub host : Option RefusalText
  pub target : Option RefusalText
  pub filter : Option RefusalText
  pub default_filter : Option RefusalText

-- all refusals of the texts of a rule, as one cause
abbrev pub parse_cause : (host target filter default_filter : Option RefusalText)
    → Option CompileCause
parse_cause None None None None = None
parse_cause host target filter default_filter =
    Some (parse_refusals host target filter default_filter)

-- the cause that refusals are, if there is one
abbrev pub refusal_cause : TextRefusals → Option CompileCause
refusal_cause r = parse_cause r.host r.target r.filter r.default_filter

-- whether a rule has a constraint: a host, a target or a filter
abbrev pub has_constraint : PlatformText → Option (List ℕ) → Bool
has_constraint platform filter =
    is_some platform.host || (is_some platform.target || is_some filter)

-- the texts of an override that are refused
abbrev pub override_refusals : {M K P : Type 0} → Readings M K P → OverrideText → TextRefusals
override_refusals engines o = record {
  host = spec_refusal engines o.platform.host;
  target = spec_refusal engines o.platform.target;
  filter = filter_refusal engines OverrideFilter o.filter;
  default_filter = filter_refusal engines DefaultFilter o.default_filter;
}

-- the texts of a script rule that are refused
abbrev pub script_rule_refusals : {M K P : Type 0} → Readings M K P → ScriptRuleText → TextRefusals
script_rule_refusals engines r = record {
  host = spec_refusal engines r.platform.host;
  target = spec_refusal engines r.platform.target;
  filter = filter_refusal engines DefaultFilter r.filter;
  default_filter = None;
}

-- a cause where a test passes
abbrev pub cause_if : CompileCause → Bool → Option CompileCause
cause_if cause b = if b then Some cause else None

-- what is wrong with an override whose texts are refused so: it has no constraint; or texts are
-- refused; or it has both filters
abbrev pub override_cause_at : OverrideText → TextRefusals → Option CompileCause
override_cause_at o refusals =
    if not (has_constraint o.platform o.filter) then Some (no_constraint (is_some o.default_filter))
    else option_or (refusal_cause refusals)
    (cause_if two_filters (is_some o.filter && is_some o.default_filter))

-- What is wrong with an override: it has no constraint; or the engines refuse its texts; or it has
-- both filters.
abbrev pub override_cause : {M K P : Type 0} → Readings M K P → OverrideText → Option CompileCause
override_cause engines o = override_cause_at o (override_refusals engines o)

-- what is wrong with a script rule whose texts are refused so: it has no constraint, or texts are
-- refused
abbrev pub script_rule_cause_at : ScriptRuleText → TextRefusals → Option CompileCause
script_rule_cause_at r refusals =
    if not (has_constraint r.platform r.filter) then Some (no_constraint false)
    else refusal_cause refusals

-- What is wrong with a script rule: it has no constraint, or the engines refuse its texts.
abbrev pub script_rule_cause : {M K P : Type 0} → Readings M K P → ScriptRuleText
    → Option CompileCause
script_rule_cause engines r = script_rule_cause_at r (script_rule_refusals engines r)

-- what is wrong with the default filter of a profile: the engine refuses it
abbrev pub default_filter_cause : {M K P : Type 0} → Readings M K P → Option (List ℕ)
    → Option CompileCause
default_filter_cause engines text =
    parse_cause None None None (filter_refusal engines DefaultFilter text)

-- a fault in a section of a profile, if there is a cause
abbrev pub fault_in : Name → RuleSection → Option CompileCause → List CompileFault
fault_in name section cause = option_to_list
    (option_map (λ c. record { profile = name; section = section; cause = c }) cause)

-- the faults of the overrides of a profile, by position
abbrev pub override_faults : {M K P : Type 0} → Readings M K P → Name → List OverrideText
    → List CompileFault
override_faults engines name texts =
    flat_map (λ e. fault_in name (in_override e.0) (override_cause engines e.1))
    (enumerate_from 0 texts)

-- the faults of the script rules of a profile, by position
abbrev pub script_rule_faults : {M K P : Type 0} → Readings M K P → Name → List ScriptRuleText
    → List CompileFault
script_rule_faults engines name texts =
    flat_map (λ e. fault_in name (in_script_rule e.0) (script_rule_cause engines e.1))
    (enumerate_from 0 texts)

-- All faults of a profile: of its default filter, its overrides and its script rules.
abbrev pub profile_faults : {M K P : Type 0} → Readings M K P → Name → ProfileText
    → List CompileFault
profile_faults engines name p =
    fault_in name in_default_filter (default_filter_cause engines p.default_filter)
    ++ override_faults engines name p.overrides
    ++ script_rule_faults engines name p.script_rules

-- what f finds in each profile, `default` first, the others by name
abbrev pub in_each_profile : {X : Type 0} → (Name → ProfileText → List X)
    → List (Name × ProfileText) → List X
in_each_profile f profiles = flat_map (λ p. f p.0 p.1) (default_first profiles)

-- All faults of compilation of profiles, `default` first, the others by name.
abbrev pub compile_faults : {M K P : Type 0} → Readings M K P → List (Name × ProfileText)
    → List CompileFault
compile_faults engines profiles = in_each_profile (profile_faults engines) profiles
