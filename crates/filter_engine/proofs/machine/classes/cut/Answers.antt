use Rattle.std.proofs.Common.{◌+◌, arith, set, true, false, get_or-set_same, length-set}
use Rattle.filter_engine.proofs.Classes.{cut_set}
use Rattle.filter_engine.proofs.machine.classes.cut.Goals as goal

pub returns-clause-cut : goal.returns-clause-cut
returns-clause-cut c =
    let cuts = c.args.cuts.now in
    let start = c.args.transition.start in
    let end = c.args.transition.end + 1 in (
      cut_set (set cuts start true) end start (get_or-set_same cuts start true false (omega arith)),
      get_or-set_same (set cuts start true) end true false (omega (arith, length-set cuts start true)),
    )

pub returns-clause-keeps : goal.returns-clause-keeps
returns-clause-keeps c =
    let cuts = c.args.cuts.now in
    let start = c.args.transition.start in
    λ k is. cut_set (set cuts start true) (c.args.transition.end + 1) k (cut_set cuts start k is)
