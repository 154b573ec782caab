use Rattle.std.proofs.Common.{take, length}
use Rattle.std.specs.List.{AllZip, zip}
use Rattle.rinqebo_rules.specs.FilterRules.{filter_rule_view}
use Rattle.rinqebo_results.specs.RunsReasons.{IsFilterRuleReported}
use Rattle.rinqebo_run.proofs.why_runs.reported_filter_rules.Given as goal

-- the rules so far
abbrev pub invariant-loop-rule : goal.invariant-loop-rule
invariant-loop-rule l = AllZip (λ p. IsFilterRuleReported l.layers l.matches (filter_rule_view p.0) p.1)
    (take (length l.yielded) (zip l.rules l.verdicts)) l.reported.items
