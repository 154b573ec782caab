use Rattle.std.proofs.Common.{map}
use Rattle.rinqebo_rules.proofs.FilterRules.{rules_here}
use Rattle.rinqebo_origins.proofs.Results.{ok_same}
use Rattle.rinqebo_rules.specs.FilterRules.{filter_rule_view}
use Rattle.rinqebo_rules.proofs.default_rules.filter_rules.Goals as goal

pub returns : goal.returns
returns c = λ overrides on.
    ok_same (λ found. map filter_rule_view found.items) c.held_rules.result _ _
    (rules_here c.args.platforms.now c.args.rules.now.overrides.items overrides on)
    (rw c.deref.ensures.value at c.held_rules.ensures)
