-- What contracts see of rules on the platforms of a build, and of what profiles write.
use Rattle.std.specs.Borrow.{Bor}
use Rattle.std.specs.Prelude.{List, option_map}
use Rattle.nextest_load.specs.Config.{ScriptTables}
use Rattle.nextest_rules.specs.Accepted.{IfWritten}
use Rattle.nextest_rules.specs.Rules.{Compiled, OverrideUse, ScriptRuleUse}
use Rattle.nextest_sources.specs.InputFaults.{Each}
use Rattle.nextest_rules.specs.Meaning.{use_meaning}
use Rattle.nextest_rules.specs.View.{override_rule_view, script_rule_view}
use Rattle.nextest_rules.specs.declared.overrides.CompiledOverride.{CompiledOverride}
use Rattle.nextest_rules.specs.declared.overrides.CompiledProfileScripts.{CompiledProfileScripts}
use Rattle.nextest_tables.specs.FileTexts.{names_in, IsIn}
use Rattle.nextest_tables.specs.View.{fields_view}
use Rattle.nextest_tables.specs.Written.{WrittenFields}
use Rattle.nextest_tables.specs.declared.profile_table.ProfileFields.{ProfileFields}
use Rattle.nextest_settings.specs.declared.platforms.EvaluatedRule.{EvaluatedRule as EvaluatedRule'}
use Rattle.nextest_settings.specs.Platforms.{EvaluatedRule, RuleText}

-- an override behind a reference
abbrev pub override_ref_view : {F S E T N P : Type 0} → Bor (CompiledOverride F S E T N P)
    → Compiled E N (OverrideUse E)
override_ref_view r = override_rule_view r.now

-- a script rule behind a reference
abbrev pub script_rule_ref_view : {F S E T N P : Type 0} → Bor (CompiledProfileScripts F S E T N P)
    → Compiled E N ScriptRuleUse
script_rule_ref_view r = script_rule_view r.now

-- what a profile behind a reference writes
abbrev pub fields_ref_view : Bor ProfileFields → WrittenFields
fields_ref_view f = fields_view f.now

-- an override on the platforms of a build
abbrev pub evaluated_override_view : {F S E T N P : Type 0}
    → EvaluatedRule' (CompiledOverride F S E T N P) → EvaluatedRule E (OverrideUse E)
evaluated_override_view r = record {
  filter = (override_ref_view r.rule).filter;
  for_host = r.for_host;
  for_target = r.for_target;
  writes = (override_ref_view r.rule).writes;
}

-- a script rule on the platforms of a build
abbrev pub evaluated_script_rule_view : {F S E T N P : Type 0}
    → EvaluatedRule' (CompiledProfileScripts F S E T N P) → EvaluatedRule E ScriptRuleUse
evaluated_script_rule_view r = record {
  filter = (script_rule_ref_view r.rule).filter;
  for_host = r.for_host;
  for_target = r.for_target;
  writes = (script_rule_ref_view r.rule).writes;
}

-- a rule on the platforms of a build, with f done to its filter and h to what it writes
abbrev pub evaluated_meaning : {E W M V : Type 0} → (E → M) → (W → V) → EvaluatedRule E W
    → EvaluatedRule M V
evaluated_meaning f h r = record {
  filter = option_map f r.filter;
  for_host = r.for_host;
  for_target = r.for_target;
  writes = h r.writes;
}

-- an override on the platforms of a build, by what its filters mean
abbrev pub evaluated_override_meaning : {E M : Type 0} → (E → M) → EvaluatedRule E (OverrideUse E)
    → EvaluatedRule M (OverrideUse M)
evaluated_override_meaning f r = evaluated_meaning f (use_meaning f) r

-- a script rule on the platforms of a build, by what its filter means
abbrev pub evaluated_script_rule_meaning : {E M : Type 0} → (E → M) → EvaluatedRule E ScriptRuleUse
    → EvaluatedRule M ScriptRuleUse
evaluated_script_rule_meaning f r = evaluated_meaning f (λ u. u) r

-- an override that code holds, by what its filters mean
abbrev pub meant_override : {F S E T N P M : Type 0} → (E → M)
    → EvaluatedRule' (CompiledOverride F S E T N P) → EvaluatedRule M (OverrideUse M)
meant_override meaning r = evaluated_override_meaning meaning (evaluated_override_view r)

-- a script rule that code holds, by what its filter means
abbrev pub meant_script_rule : {F S E T N P M : Type 0} → (E → M)
    → EvaluatedRule' (CompiledProfileScripts F S E T N P) → EvaluatedRule M ScriptRuleUse
meant_script_rule meaning r =
    evaluated_script_rule_meaning meaning (evaluated_script_rule_view r)

-- what an override says beside its platforms, by what its filters mean
abbrev pub override_text_meaning : {E N M : Type 0} → (E → M) → Compiled E N (OverrideUse E)
    → RuleText M (OverrideUse M)
override_text_meaning f rule =
    record { filter = option_map f rule.filter; writes = use_meaning f rule.writes }

-- each run wrapper that script rules name is a wrapper script of a configuration
abbrev pub KnowsRunWrappers : {F S E T N P : Type 0} → ScriptTables
    → List (EvaluatedRule' (CompiledProfileScripts F S E T N P)) → Type 0
KnowsRunWrappers scripts rules = Each
    (λ r. IfWritten (script_rule_ref_view r.rule).writes.scripts.run_wrapper
    (IsIn (names_in scripts.wrapper))) rules

-- each list wrapper that script rules name is a wrapper script of a configuration
abbrev pub KnowsListWrappers : {F S E T N P : Type 0} → ScriptTables
    → List (EvaluatedRule' (CompiledProfileScripts F S E T N P)) → Type 0
KnowsListWrappers scripts rules = Each
    (λ r. IfWritten (script_rule_ref_view r.rule).writes.scripts.list_wrapper
    (IsIn (names_in scripts.wrapper))) rules
