use Rattle.std.proofs.Common.{◌∙◌, sym, ap, length}
use Rattle.filter_engine.proofs.StateLists.{listed_len}
use Rattle.filter_engine.proofs.machine.state_list.StateList.len.Goals as goal

pub returns-clause-len : goal.returns-clause-len
returns-clause-len g c = sym (listed_len _ _ _ _ c.self.invariant) ∙ ap length c.self.view_is
