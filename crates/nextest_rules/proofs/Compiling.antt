-- The rules and the faults of a profile, one rule after another.
use Rattle.std.proofs.Common.{ℕ, List, map, flat_map}
use Rattle.std.specs.List.{enumerate_from}
use Rattle.nextest_engines.specs.Readings.{Readings}
use Rattle.nextest_sources.specs.Causes.{CompileFault, in_override, in_script_rule}
use Rattle.nextest_sources.specs.Sources.{Source}
use Rattle.nextest_tables.specs.FileTexts.{OverrideText, ScriptRuleText}
use Rattle.nextest_tables.specs.Written.{Name}
use Rattle.nextest_rules.specs.CompileFaults.{fault_in, override_cause, script_rule_cause}
use Rattle.nextest_rules.specs.Rules.{Compiled, OverrideUse, ScriptRuleUse, override_rule, script_rule}

-- the rules of the overrides from a position on
abbrev pub override_rules_from : {M K P : Type 0} → Readings M K P → Source → Name → ℕ → List OverrideText
    → List (Compiled M K (OverrideUse M))
override_rules_from engines source name i texts = map
    (λ e. override_rule engines (record { source = source; profile = name; index = e.0 }) e.1)
    (enumerate_from i texts)

-- the rules of the script rules from a position on
abbrev pub script_rules_from : {M K P : Type 0} → Readings M K P → Source → Name → ℕ → List ScriptRuleText
    → List (Compiled M K ScriptRuleUse)
script_rules_from engines source name i texts = map
    (λ e. script_rule engines (record { source = source; profile = name; index = e.0 }) e.1)
    (enumerate_from i texts)

-- the faults of the overrides from a position on
abbrev pub override_faults_from : {M K P : Type 0} → Readings M K P → Name → ℕ → List OverrideText → List CompileFault
override_faults_from engines name i texts =
    flat_map (λ e. fault_in name (in_override e.0) (override_cause engines e.1)) (enumerate_from i texts)

-- the faults of the script rules from a position on
abbrev pub script_rule_faults_from : {M K P : Type 0} → Readings M K P → Name → ℕ → List ScriptRuleText
    → List CompileFault
script_rule_faults_from engines name i texts =
    flat_map (λ e. fault_in name (in_script_rule e.0) (script_rule_cause engines e.1)) (enumerate_from i texts)
