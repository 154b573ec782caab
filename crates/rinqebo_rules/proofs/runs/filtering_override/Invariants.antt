use Rattle.std.proofs.Common.{◌≡◌, drop, map}
use Rattle.nextest_settings.specs.Chains.{first_of}
use Rattle.nextest_settings.specs.View.{meant_override}
use Rattle.rinqebo_rules.specs.Runs.{filtering_id}
use Rattle.rinqebo_rules.proofs.runs.filtering_override.Given as goal

-- the overrides so far have no default filter that counts
abbrev pub invariant-loop-rule : goal.invariant-loop-rule
invariant-loop-rule g l =
    let meant = meant_override g.F.Filters.meaning in
    first_of filtering_id (map meant (drop l.rule-index l.rules)) ≡ first_of filtering_id (map meant l.rules)
