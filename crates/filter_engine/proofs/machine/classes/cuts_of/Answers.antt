use Rattle.std.proofs.Common.{subst, arith, ap, length, ◌∙◌, refl}
use Rattle.std.proofs.lemmas.Grind.{common_steps}
use Rattle.std.proofs.lemmas.List.{get_or_default}
use Rattle.filter_engine.specs.Classes.{IsCut}
use Rattle.filter_engine.proofs.Classes.{cuts_separate, states_keep, states_more, transitions_keep, transitions_more}
use Rattle.filter_engine.proofs.machine.classes.cuts_of.Goals as goal

pub states-init : goal.states-init
states-init c = (refl, λ q t h. absurd (omega arith))

pub states-preserved : goal.states-preserved
states-preserved c =
    let keeps = c.cut_state.ensures.keeps in (
      keeps 0 c.states.invariant.0,
      states_more _ c.args.nfa.now _ (states_keep _ _ c.args.nfa.now _ keeps c.states.invariant.1)
          (λ t is. c.cut_state.ensures.cut t (c.state.ensures.is ∙ is)),
    )

pub transitions-init : goal.transitions-init
transitions-init c = (
  c.states.invariant.0,
  λ q t h. c.states.invariant.1 q t (omega (arith, c.args.nfa.now.states.ok.0)),
  λ k d h. absurd (omega arith),
)

pub transitions-preserved : goal.transitions-preserved
transitions-preserved c =
    let keeps = c.cut.ensures.keeps in
    let ts = c.args.nfa.now.transitions.items in (
      keeps 0 c.transitions.invariant.0,
      states_keep _ _ c.args.nfa.now _ keeps c.transitions.invariant.1,
      transitions_more _ ts _ (transitions_keep _ _ ts _ keeps c.transitions.invariant.2)
          (λ d. subst (IsCut c.cut.new.cuts)
          (get_or_default ts c.transitions.transition-index _ d (grind (arith, common_steps)))
          (rw c.deref-transition-items.ensures.value at c.cut.ensures.cut)),
    )

pub returns : goal.returns
returns c = record {
  first = c.transitions.invariant.0;
  others = cuts_separate c.args.nfa.now c.transitions.cuts c.transitions.invariant.1
      (λ k d h. c.transitions.invariant.2 k d (omega (arith, ap length c.deref-transition-items.ensures.value)));
}
