use Rattle.nextest_settings.proofs.IsIndex.{setting-list-is, wrapper-list-is}
use Rattle.nextest_settings.proofs.evaluated.EvaluatedRules.law_lists.Goals as goal

pub returns-clause-settings : goal.returns-clause-settings
returns-clause-settings g c =
    λ platform mode s. setting-list-is c.args.self.now.overrides.items c.args.self.now.script_rules.items
    c.args.self.now.index c.args.self.now.index_is platform mode s

pub returns-clause-wrappers : goal.returns-clause-wrappers
returns-clause-wrappers g c =
    λ platform wrapper. wrapper-list-is c.args.self.now.overrides.items c.args.self.now.script_rules.items
    c.args.self.now.index c.args.self.now.index_is platform wrapper
