-- What contracts see of setup scripts.
use Rattle.std.specs.Prelude.{List, map, drop}
use Rattle.nextest_scripts.specs.ScriptId.{script_text}
use Rattle.nextest_scripts.specs.ScriptTexts.{SetupScriptText, setup_script_view}
use Rattle.nextest_tables.specs.Written.{Name}
use Rattle.nextest_rules.specs.Rules.{ScriptRuleUse}
use Rattle.nextest_settings.specs.Platforms.{EvaluatedRule}
use Rattle.nextest_settings.specs.View.{meant_script_rule}
use Rattle.nextest_settings.specs.declared.setup_scripts.NamedSetupScript.{NamedSetupScript}
use Rattle.nextest_settings.specs.declared.setup_scripts.NumberedRule.{NumberedRule}
use Rattle.nextest_settings.specs.declared.setup_scripts.SetupScript.{SetupScript}
use Rattle.nextest_settings.specs.declared.setup_scripts.SetupScripts.{SetupScripts}
use Rattle.nextest_settings.specs.declared.setup_scripts.SetupScriptIter.{SetupScriptIter}

-- a rule, by what its filter means
abbrev pub numbered_rule_view : {F S E T N P M : Type 0} → (E → M) → NumberedRule F S E T N P
    → EvaluatedRule M ScriptRuleUse
numbered_rule_view meaning r = meant_script_rule meaning r.rule

-- a setup script by its id
abbrev pub named_setup_script_view : NamedSetupScript → Name × SetupScriptText
named_setup_script_view s = (script_text s.id.now, setup_script_view s.config.now)

-- the id of a setup script
abbrev pub script_id_view : {F S E T N P : Type 0} → SetupScript F S E T N P → Name
script_id_view s = script_text s.script.id.now

-- the rules among which are those that name a setup script
abbrev pub setup_rules_view : {F S E T N P M : Type 0} → (E → M) → SetupScript F S E T N P
    → List (EvaluatedRule M ScriptRuleUse)
setup_rules_view meaning s = map (numbered_rule_view meaning) s.rules.now

-- the rules among which are those that name setup scripts
abbrev pub setup_scripts_rules_view : {F S E T N P M : Type 0} → (E → M) → SetupScripts F S E T N P
    → List (EvaluatedRule M ScriptRuleUse)
setup_scripts_rules_view meaning s = map (numbered_rule_view meaning) s.rules.items

-- setup scripts, in their order
abbrev pub setup_scripts_view : {F S E T N P : Type 0} → SetupScripts F S E T N P
    → List (Name × SetupScriptText)
setup_scripts_view s = map named_setup_script_view s.scripts.items

-- the setup scripts that an iterator has left, each with the rules
abbrev pub scripts_left_view : {F S E T N P : Type 0} → SetupScriptIter F S E T N P
    → List (SetupScript F S E T N P)
scripts_left_view i =
    map (λ script. record { script = script; rules = i.rules }) (drop i.index i.scripts.now)
