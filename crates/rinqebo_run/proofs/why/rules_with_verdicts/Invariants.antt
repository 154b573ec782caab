use Rattle.std.proofs.Common.{All, option_map, take, length}
use Rattle.std.specs.List.{AllZip, zip}
use Rattle.rinqebo_rules.specs.RuleViews.{setting_rule_view}
use Rattle.rinqebo_origins.specs.Origins.{key_steps}
use Rattle.rinqebo_results.specs.Reasons.{IsRuleAsWritten, IsRuleReported}
use Rattle.rinqebo_run.proofs.why.rules_with_verdicts.Given as goal

-- the rules so far
abbrev pub invariant-loop-rule : goal.invariant-loop-rule
invariant-loop-rule l = record {
  told : AllZip (λ p. IsRuleReported l.layers (setting_rule_view p.0).writes p.0.answers p.1)
      (take (length l.yielded) (zip l.rules l.verdicts)) l.reported.items;
  written : All (IsRuleAsWritten l.layers (key_steps (option_map (λ table. table.now) l.key.table) l.key.key.now))
      l.reported.items;
}
