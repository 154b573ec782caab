use Rattle.std.proofs.Common.{sym, ◌∙◌}
use Rattle.filter_engine.proofs.Targets.{split_targets, save_targets, look_targets}
use Rattle.filter_engine.proofs.machine.search.Search.follow.Goals as goal

pub returns-in-Split-clause-targets : goal.returns-in-Split-clause-targets
returns-in-Split-clause-targets g c =
    split_targets _ _ _ _ _ _ _ _ _ (sym c.in-Split.ensures.is) c.insert.ensures c.insert-in-Split.ensures

pub returns-in-Save-clause-targets : goal.returns-in-Save-clause-targets
returns-in-Save-clause-targets g c = save_targets _ _ _ _ _ _ _ _ (sym c.in-Save.ensures.is) c.insert-in-Save.ensures

pub returns-then-holds-clause-targets : goal.returns-then-holds-clause-targets
returns-then-holds-clause-targets g c =
    look_targets _ _ _ _ _ _ _ _ (sym c.in-Look.ensures.is) (sym c.holds.ensures ∙ c.if-holds.true)
    c.insert-then-holds.ensures
