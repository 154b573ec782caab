-- Rules by what the engines mean, in place of the expressions that code holds.
use Rattle.std.specs.Prelude.{map, option_map}
use Rattle.nextest_rules.specs.Rules.{Compiled, WrittenFilter, OverrideUse, ScriptRuleUse, LayerProfile, Layer}

-- a rule with f done to its filter, g to its specs and h to what it writes
abbrev pub rule_meaning : {E N W M K V : Type 0} → (E → M) → (N → K) → (W → V) → Compiled E N W
    → Compiled M K V
rule_meaning f g h r = record {
  host = option_map g r.host;
  target = option_map g r.target;
  filter = option_map f r.filter;
  writes = h r.writes;
}

-- a default filter, by what it means
abbrev pub written_meaning : {E M : Type 0} → (E → M) → WrittenFilter E → WrittenFilter M
written_meaning f w = record { means = f w.means; text = w.text }

-- what an override writes, by what its default filter means
abbrev pub use_meaning : {E M : Type 0} → (E → M) → OverrideUse E → OverrideUse M
use_meaning f u = record {
  id = u.id;
  settings = u.settings;
  default_filter = option_map (written_meaning f) u.default_filter;
}

-- an override
abbrev pub override_meaning : {E N M K : Type 0} → (E → M) → (N → K) → Compiled E N (OverrideUse E)
    → Compiled M K (OverrideUse M)
override_meaning f g r = rule_meaning f g (use_meaning f) r

-- a script rule
abbrev pub script_rule_meaning : {E N M K : Type 0} → (E → M) → (N → K) → Compiled E N ScriptRuleUse
    → Compiled M K ScriptRuleUse
script_rule_meaning f g r = rule_meaning f g (λ u. u) r

-- a profile of a source
abbrev pub layer_profile_meaning : {E N M K : Type 0} → (E → M) → (N → K) → LayerProfile E N
    → LayerProfile M K
layer_profile_meaning f g p = record {
  default_filter = option_map (written_meaning f) p.default_filter;
  overrides = map (override_meaning f g) p.overrides;
  script_rules = map (script_rule_meaning f g) p.script_rules;
}

-- a layer
abbrev pub layer_meaning : {E N M K : Type 0} → (E → M) → (N → K) → Layer E N → Layer M K
layer_meaning f g l = record {
  source = l.source;
  profiles = map (λ e. (e.0, layer_profile_meaning f g e.1)) l.profiles;
}
