use Rattle.rinqebo_rules.proofs.Evaluated.{evaluated_if}
use Rattle.rinqebo_rules.proofs.unused.open_script_rule_holds.Goals as goal

pub returns-in-None-clause-tally : goal.returns-in-None-clause-tally
returns-in-None-clause-tally g c =
    evaluated_if _ _ c.args.number _ _ c.script_rule_holds.ensures.tally c.in-None.is
