use Rattle.std.proofs.Common.{inl, inr, ◌∙◌, ap}
use Rattle.filter_language.specs.Evaluation.{stack_view, behind}
use Rattle.filter_language.proofs.Skipping.{flipped_agrees, joined_agrees, closed_agrees}
use Rattle.filter_language.proofs.evaluation.Levels.add.Goals as goal

pub returns-in-Close : goal.returns-in-Close
returns-in-Close g c = λ all agree.
    rw c.in-Close.is
    (closed_agrees (stack_view c.args.self.now) all (stack_view c.close.new.self) c.close.ensures agree)

pub returns-in-Not : goal.returns-in-Not
returns-in-Not g c = λ all agree.
    let it = flipped_agrees (stack_view c.args.self.now) all _ c.flipped-self.ensures agree in
    elim c.in-Not.is [
      | inl is ↦ rw is it
      | inr is ↦ rw is it
    ]

pub returns-in-Or : goal.returns-in-Or
returns-in-Or g c = λ all agree.
    rw c.in-Or.is
    (joined_agrees (stack_view c.args.self.now) all _ (c.behind-self.ensures ∙ ap behind c.value.ensures) agree)
