use Rattle.std.proofs.Common.{ℕ, List, Bool, false, ap, get_or, set, sym, ◌∙◌, arith, take_all}
use Rattle.std.proofs.lemmas.List.Sums.{fold_more}
use Rattle.filter_engine.specs.StateLists.{without}
use Rattle.filter_engine.proofs.machine.state_flags.StateFlags.remove_all.Goals as goal

pub loop-i-init : goal.loop-i-init
loop-i-init g c = c.self.view_is

pub loop-i-preserved : goal.loop-i-preserved
loop-i-preserved g c =
    let states = c.args.states.now in
    ap (λ (flags : List Bool). set flags (get_or states c.loop-i.i 0) false) c.loop-i.invariant
    ∙ sym (fold_more (λ (flags : List Bool) (state : ℕ). set flags state false) c.args.self.now states c.loop-i.i 0
    (omega arith))

pub returns : goal.returns
returns g c =
    c.loop-i.invariant ∙ ap (without c.args.self.now) (take_all c.loop-i.i c.args.states.now (omega arith))
