use Rattle.std.proofs.Common.{[], refl, ◌∙◌, ap}
use Rattle.filter_language.specs.Grammar.{mark_view}
use Rattle.filter_language.specs.Values.{subject_view, answer}
use Rattle.filter_language.specs.Evaluation.{Stack, stack_view, fresh, said}
use Rattle.filter_language.proofs.Depths.{closed_behind}
use Rattle.filter_language.proofs.Evaluations.{none_left}
use Rattle.filter_language.proofs.Skipping.{start_agrees, said_agrees}
use Rattle.filter_language.proofs.evaluation.value_of.Goals as goal

pub loop-mark-init : goal.loop-mark-init
loop-mark-init g c = record {
  all = record { inner = fresh; outer = [] };
  agree = start_agrees (stack_view c.new-levels.result) c.new-levels.ensures;
  on = refl;
}

pub returns : goal.returns
returns g c =
    let answers = answer g.E.Matchers.accepts (subject_view c.args.subject) in
    let it = c.loop-mark.invariant in
    let whole = none_left answers (mark_view g.E.Matchers.meaning) it.all (record { inner = fresh; outer = [] })
    c.args.marks.now c.loop-mark.mark-index c.loop-mark-test.false c.loop-mark.auto.mark-index-end it.on in
    c.value.ensures
    ∙ said_agrees (stack_view c.loop-mark.levels) it.all it.agree
    (ap (λ (s : Stack). s.outer) whole
    ∙ closed_behind answers g.E.Matchers.meaning c.args.marks.now c.requires)
    ∙ ap (λ (s : Stack). said s.inner) whole
