use Rattle.std.proofs.Common.{◌∙◌}
use Rattle.nextest_settings.proofs.IsIndex.{rows-are}
use Rattle.nextest_settings.proofs.evaluated.EvaluatedRules.override_rows.Goals as goal

pub returns : goal.returns
returns g c = c.overrides.ensures
    ∙ rows-are c.args.self.now.overrides.items c.args.self.now.script_rules.items c.args.self.now.index
    c.args.self.now.index_is c.args.platform c.args.mode
