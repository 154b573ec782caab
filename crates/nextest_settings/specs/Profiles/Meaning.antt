-- Profiles by what the engines mean, in place of the expressions that code holds.
use Rattle.std.specs.Prelude.{map}
use Rattle.nextest_load.specs.Config.{ConfigModel}
use Rattle.nextest_load.specs.Meaning.{config_meaning}
use Rattle.nextest_settings.specs.Chains.{FilterChoice}
use Rattle.nextest_settings.specs.Profile.{Configured, EvaluatableModel}
use Rattle.nextest_settings.specs.View.{evaluated_override_meaning, evaluated_script_rule_meaning}

-- the same beside another configuration, as the one that texts mean beside the one that is held
abbrev pub with_config : {E N M K : Type 0} → Configured E N → ConfigModel M K → Configured M K
with_config c config = record { root = c.root; config = config; scripts = c.scripts }

-- what a configuration means: its filters by f, its platform specs by g
abbrev pub configured_meaning : {E N M K : Type 0} → (E → M) → (N → K) → Configured E N
    → Configured M K
configured_meaning f g c = with_config c (config_meaning f g c.config)

-- what a default filter means, where it is
abbrev pub choice_meaning : {E M : Type 0} → (E → M) → FilterChoice E → FilterChoice M
choice_meaning f c = record {
  filter = f c.filter;
  text = c.text;
  profile = c.profile;
  section = c.section;
}

-- what a profile on the platforms of a build means
abbrev pub profile_meaning : {E M : Type 0} → (E → M) → EvaluatableModel E → EvaluatableModel M
profile_meaning f p = record {
  facts = p.facts;
  overrides = map (evaluated_override_meaning f) p.overrides;
  script_rules = map (evaluated_script_rule_meaning f) p.script_rules;
  default_filter = choice_meaning f p.default_filter;
}
