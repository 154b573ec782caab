use Rattle.std.proofs.Common.{◌∙◌}
use Rattle.nextest_settings.proofs.IsIndex.{wrappers-are}
use Rattle.nextest_settings.proofs.evaluated.EvaluatedRules.wrapper_rows.Goals as goal

pub returns : goal.returns
returns g c = c.wrappers.ensures
    ∙ wrappers-are c.args.self.now.overrides.items c.args.self.now.script_rules.items c.args.self.now.index
    c.args.self.now.index_is c.args.platform c.args.wrapper
