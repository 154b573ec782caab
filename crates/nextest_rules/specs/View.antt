-- What contracts see of compiled rules.
use Rattle.std.specs.Prelude.{ℕ, List, String, map, option_map, string_bytes}
use Rattle.std.specs.Borrow.{Bor}
use Rattle.std.specs.declared.alloc.Global.{Global}
use Rattle.nextest_sources.specs.Sources.{source_view}
use Rattle.nextest_tables.specs.View.{by_name, settings_view, uses_view}
use Rattle.nextest_tables.specs.Written.{Name}
use Rattle.nextest_rules.specs.Meaning.{layer_profile_meaning}
use Rattle.nextest_rules.specs.Rules.{RuleId, Compiled, WrittenFilter, OverrideUse, ScriptRuleUse, LayerProfile, Layer}
use Rattle.nextest_rules.specs.declared.overrides.OverrideId.{OverrideId}
use Rattle.nextest_rules.specs.declared.overrides.ScriptRuleId.{ScriptRuleId}
use Rattle.nextest_rules.specs.declared.overrides.ReadFilter.{ReadFilter}
use Rattle.nextest_rules.specs.declared.overrides.CompiledOverride.{CompiledOverride}
use Rattle.nextest_rules.specs.declared.overrides.CompiledProfileScripts.{CompiledProfileScripts}
use Rattle.nextest_rules.specs.declared.overrides.CompiledProfile.{CompiledProfile}
use Rattle.nextest_rules.specs.declared.overrides.LayerRules.{LayerRules}

-- which override
abbrev pub id_view : OverrideId → RuleId
id_view i = record {
  source = source_view i.config_source;
  profile = string_bytes i.profile_name;
  index = i.index;
}

-- which script rule
abbrev pub script_rule_id_view : ScriptRuleId → RuleId
script_rule_id_view i = record {
  source = source_view i.config_source;
  profile = string_bytes i.profile_name;
  index = i.index;
}

-- a default filter
abbrev pub read_filter_view : {F E T : Type 0} → ReadFilter F E T → WrittenFilter E
read_filter_view f = record { means = f.expr; text = string_bytes f.text }

-- an override
abbrev pub override_rule_view : {F S E T N P : Type 0} → CompiledOverride F S E T N P
    → Compiled E N (OverrideUse E)
override_rule_view r = record {
  host = r.platforms.host;
  target = r.platforms.target;
  filter = r.filter;
  writes = record {
    id = id_view r.id;
    settings = settings_view r.settings;
    default_filter = option_map read_filter_view r.default_filter;
  };
}

-- a script rule
abbrev pub script_rule_view : {F S E T N P : Type 0} → CompiledProfileScripts F S E T N P
    → Compiled E N ScriptRuleUse
script_rule_view r = record {
  host = r.platforms.host;
  target = r.platforms.target;
  filter = r.filter;
  writes = record {
    id = script_rule_id_view r.id;
    scripts = uses_view r.scripts;
  };
}

-- the rules of a profile
abbrev pub layer_profile_view : {F S E T N P : Type 0} → CompiledProfile F S E T N P
    → LayerProfile E N
layer_profile_view p = record {
  default_filter = option_map read_filter_view p.default_filter;
  overrides = map override_rule_view p.overrides.items;
  script_rules = map script_rule_view p.scripts.items;
}

-- the rules of a profile, by what the engines mean
abbrev pub profile_meaning_view : {F S E T N P M K : Type 0} → (E → M) → (N → K)
    → CompiledProfile F S E T N P → LayerProfile M K
profile_meaning_view f g p = layer_profile_meaning f g (layer_profile_view p)

-- profiles by name, by what the engines mean
abbrev pub profiles_view : {F S E T N P M K : Type 0} → (E → M) → (N → K)
    → List (String Global × CompiledProfile F S E T N P) → List (Name × LayerProfile M K)
profiles_view f g es = by_name (profile_meaning_view f g) es

-- profiles in an order, by what the engines mean
abbrev pub order_view : {F S E T N P M K : Type 0} → (E → M) → (N → K)
    → List (Bor (List ℕ) × Bor (CompiledProfile F S E T N P)) → List (Name × LayerProfile M K)
order_view f g order = map (λ e. (e.0.now, profile_meaning_view f g e.1.now)) order

-- the rules of one source
abbrev pub layer_view : {F S E T N P : Type 0} → LayerRules F S E T N P → Layer E N
layer_view l = record {
  source = source_view l.source;
  profiles = by_name layer_profile_view l.profiles.entries;
}
