use Rattle.std.proofs.Common.{◌≡◌, [], map, drop}
use Rattle.filter_language.specs.Grammar.{mark_view}
use Rattle.filter_language.specs.Values.{subject_view, answer}
use Rattle.filter_language.specs.Evaluation.{Stack, stack_view, fresh, with_marks}
use Rattle.filter_language.specs.Skipping.{Agree}
use Rattle.filter_language.proofs.evaluation.value_of.Given as goal

abbrev pub invariant-loop-mark : goal.invariant-loop-mark
invariant-loop-mark g l = record {
  all : Stack;
  agree : Agree (stack_view l.levels) all;
  on : with_marks (answer g.E.Matchers.accepts (subject_view l.subject)) all
      (map (mark_view g.E.Matchers.meaning) (drop l.mark-index l.marks))
      ≡ with_marks (answer g.E.Matchers.accepts (subject_view l.subject)) (record { inner = fresh; outer = [] })
      (map (mark_view g.E.Matchers.meaning) l.marks);
}
