-- Script rules that name scripts which are there, and that have known values for binaries.
use Rattle.std.specs.Borrow.{Bor}
use Rattle.std.specs.Prelude.{List, map}
use Rattle.nextest_load.specs.Closed.{BinaryMatch, AnswersBinaries}
use Rattle.nextest_load.specs.Config.{ScriptTables}
use Rattle.nextest_rules.specs.Accepted.{IfWritten}
use Rattle.nextest_rules.specs.Meaning.{script_rule_meaning}
use Rattle.nextest_sources.specs.InputFaults.{Each}
use Rattle.nextest_rules.specs.declared.overrides.CompiledProfileScripts.{CompiledProfileScripts}
use Rattle.nextest_settings.specs.View.{script_rule_ref_view}
use Rattle.nextest_settings.specs.declared.platforms.EvaluatedRule.{EvaluatedRule}
use Rattle.nextest_tables.specs.FileTexts.{ScriptUse, names_in, IsIn}

-- Each script that script rules name is one of a configuration.
pub record KnowsScripts (scripts : ScriptTables) (uses : List ScriptUse) : Type 0 where
  pub setup : Each (λ named. Each (IsIn (names_in scripts.setup)) named.setup) uses
  pub list_wrappers :
      Each (λ named. IfWritten named.list_wrapper (IsIn (names_in scripts.wrapper))) uses
  pub run_wrappers :
      Each (λ named. IfWritten named.run_wrapper (IsIn (names_in scripts.wrapper))) uses

-- the scripts that a rule behind a reference names
abbrev pub named_use : {F S E T N P : Type 0} → Bor (CompiledProfileScripts F S E T N P)
    → ScriptUse
named_use r = (script_rule_ref_view r).writes.scripts

-- the scripts that a rule on the platforms of a build names
abbrev pub evaluated_use : {F S E T N P : Type 0}
    → EvaluatedRule (CompiledProfileScripts F S E T N P) → ScriptUse
evaluated_use r = (script_rule_ref_view r.rule).writes.scripts

-- each filter beside a list wrapper, of rules behind references, has a known value for each binary
abbrev pub AnswerLists : {F S E T N P M K : Type 0} → (E → M) → (N → K) → BinaryMatch M
    → List (Bor (CompiledProfileScripts F S E T N P)) → Type 0
AnswerLists f g matches rules =
    Each (AnswersBinaries matches)
    (map (λ r. script_rule_meaning f g (script_rule_ref_view r)) rules)
