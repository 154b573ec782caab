-- The rules of a source, by what the engines make of their texts.
use Rattle.std.specs.Prelude.{ℕ, List, map, Option, option_map, option_and_then, Result}
use Rattle.std.specs.List.{enumerate_from}
use Rattle.std.specs.Result.{result_ok}
use Rattle.std.specs.Map.{lookup}
use Rattle.std.specs.BTreeMap.{is_at}
use Rattle.std.specs.Ordering.{nat_cmp}
use Rattle.std.specs.Cmp.Lexicographic.{slice_cmp}
use Rattle.nextest_engines.specs.Engines.{RefusalText}
use Rattle.nextest_engines.specs.Readings.{Readings}
use Rattle.nextest_engines.specs.declared.queries.FiltersetKind.{FiltersetKind}
use Rattle.nextest_engines.specs.declared.queries.FiltersetKind.TheVariants.{OverrideFilter, DefaultFilter}
use Rattle.nextest_tables.specs.FileTexts.{OverrideText, ScriptUse, ScriptRuleText, ProfileText}
use Rattle.nextest_tables.specs.Written.{Name, WrittenSettings}
use Rattle.nextest_sources.specs.Sources.{Source}

-- which rule of a profile: its source, its profile, and its position in the list of its kind there
pub record RuleId : Type 0 where
  pub source : Source
  pub profile : Name
  pub index : ℕ

-- A rule: what its platform specs and its filter mean, and what it writes, which is a W.
pub record Compiled (M K W : Type 0) : Type 0 where
  pub host : Option K
  pub target : Option K
  pub filter : Option M
  pub writes : W

-- A default filter that is written: what it means, and its text.
pub record WrittenFilter (M : Type 0) : Type 0 where
  pub means : M
  pub text : List ℕ

-- what an override writes: its id, values of settings, its default filter
pub record OverrideUse (M : Type 0) : Type 0 where
  pub id : RuleId
  pub settings : WrittenSettings
  pub default_filter : Option (WrittenFilter M)

-- what a script rule writes: its id, and the scripts that it names
pub record ScriptRuleUse : Type 0 where
  pub id : RuleId
  pub scripts : ScriptUse

-- a profile of a source: its default filter, its overrides and its script rules
pub record LayerProfile (M K : Type 0) : Type 0 where
  pub default_filter : Option (WrittenFilter M)
  pub overrides : List (Compiled M K (OverrideUse M))
  pub script_rules : List (Compiled M K ScriptRuleUse)

-- a layer: a source that gave text, and its profiles by name
pub record Layer (M K : Type 0) : Type 0 where
  pub source : Source
  pub profiles : List (Name × LayerProfile M K)

-- what is at a name
abbrev pub at_name : {X : Type 0} → Name → List (Name × X) → Option X
at_name name es = lookup (is_at (slice_cmp nat_cmp name)) es

-- what a text means, if there is a text and it is read
abbrev pub meaning_of : {M : Type 0} → (List ℕ → Result M RefusalText) → Option (List ℕ)
    → Option M
meaning_of read o = option_and_then (λ t. result_ok (read t)) o

-- what the text of a filter means that is written for something
abbrev pub filter_meaning : {M K P : Type 0} → Readings M K P → FiltersetKind → Option (List ℕ)
    → Option M
filter_meaning engines kind = meaning_of (engines.read_filter kind)

-- what a text means, if it is read, beside the text
abbrev pub with_text : {M : Type 0} → Option M → Option (List ℕ) → Option (WrittenFilter M)
with_text means o = option_and_then
    (λ t. option_map (λ m. record { means = m; text = t }) means) o

-- the default filter of a text, if there is a text and it is read
abbrev pub written_filter : {M K P : Type 0} → Readings M K P → Option (List ℕ)
    → Option (WrittenFilter M)
written_filter engines text = with_text (filter_meaning engines DefaultFilter text) text

-- what the text of a platform spec means
abbrev pub spec_meaning : {M K P : Type 0} → Readings M K P → Option (List ℕ) → Option K
spec_meaning engines = meaning_of engines.read_spec

-- the rule of an override
abbrev pub override_rule : {M K P : Type 0} → Readings M K P → RuleId → OverrideText
    → Compiled M K (OverrideUse M)
override_rule engines id o = record {
  host = spec_meaning engines o.platform.host;
  target = spec_meaning engines o.platform.target;
  filter = filter_meaning engines OverrideFilter o.filter;
  writes = record {
    id = id;
    settings = o.settings;
    default_filter = written_filter engines o.default_filter;
  };
}

-- the rule of a script rule
abbrev pub script_rule : {M K P : Type 0} → Readings M K P → RuleId → ScriptRuleText
    → Compiled M K ScriptRuleUse
script_rule engines id r = record {
  host = spec_meaning engines r.platform.host;
  target = spec_meaning engines r.platform.target;
  filter = filter_meaning engines DefaultFilter r.filter;
  writes = record {
    id = id;
    scripts = r.scripts;
  };
}

-- the overrides of a profile: each gives one rule, at its position
abbrev pub override_rules : {M K P : Type 0} → Readings M K P → Source → Name
    → List OverrideText → List (Compiled M K (OverrideUse M))
override_rules engines source name texts = map
    (λ e. override_rule engines (record { source = source; profile = name; index = e.0 }) e.1)
    (enumerate_from 0 texts)

-- the script rules of a profile: each gives one rule, at its position
abbrev pub script_rules : {M K P : Type 0} → Readings M K P → Source → Name
    → List ScriptRuleText → List (Compiled M K ScriptRuleUse)
script_rules engines source name texts = map
    (λ e. script_rule engines (record { source = source; profile = name; index = e.0 }) e.1)
    (enumerate_from 0 texts)

-- a profile of a source, by what its texts mean
abbrev pub layer_profile : {M K P : Type 0} → Readings M K P → Source → Name → ProfileText
    → LayerProfile M K
layer_profile engines source name p = record {
  default_filter = written_filter engines p.default_filter;
  overrides = override_rules engines source name p.overrides;
  script_rules = script_rules engines source name p.script_rules;
}

-- the layer of a source with these profiles
abbrev pub layer_of : {M K P : Type 0} → Readings M K P → Source → List (Name × ProfileText)
    → Layer M K
layer_of engines source profiles = record {
  source = source;
  profiles = map (λ p. (p.0, layer_profile engines source p.0 p.1)) profiles;
}
