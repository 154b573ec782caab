-- The rules of a profile on the platforms of a build, as code holds them: each in its place, with
-- its specs and its filter as they were read.
use Rattle.std.specs.Prelude.{◌≡◌, Bool, List, map, Option}
use Rattle.nextest_engines.specs.declared.queries.BuildPlatforms.{BuildPlatforms}
use Rattle.nextest_rules.specs.Rules.{Compiled, OverrideUse, ScriptRuleUse}
use Rattle.nextest_rules.specs.declared.overrides.CompiledOverride.{CompiledOverride}
use Rattle.nextest_rules.specs.declared.overrides.CompiledProfileScripts.{CompiledProfileScripts}
use Rattle.nextest_settings.specs.Platforms.{rule_on}
use Rattle.nextest_settings.specs.View.{override_ref_view, script_rule_ref_view, evaluated_override_view, evaluated_script_rule_view}
use Rattle.nextest_settings.specs.declared.platforms.EvaluatedRule.{EvaluatedRule}

-- Overrides as code holds them are these, in their order, on the platforms of a build.
pub record AreOverridesOn {F S E T N P Q : Type 0} (meets : N → Q → Option Bool)
    (platforms : BuildPlatforms Q) (rules : List (Compiled E N (OverrideUse E)))
    (held : List (EvaluatedRule (CompiledOverride F S E T N P))) : Type 0 where
  pub written : map (λ rule. override_ref_view rule.rule) held ≡ rules
  pub on : map evaluated_override_view held ≡ map (rule_on meets platforms) rules

-- Script rules as code holds them are these, in their order, on the platforms of a build.
pub record AreScriptRulesOn {F S E T N P Q : Type 0} (meets : N → Q → Option Bool)
    (platforms : BuildPlatforms Q) (rules : List (Compiled E N ScriptRuleUse))
    (held : List (EvaluatedRule (CompiledProfileScripts F S E T N P))) : Type 0 where
  pub written : map (λ rule. script_rule_ref_view rule.rule) held ≡ rules
  pub on : map evaluated_script_rule_view held ≡ map (rule_on meets platforms) rules
