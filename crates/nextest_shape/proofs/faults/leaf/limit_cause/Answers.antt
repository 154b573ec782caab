use Rattle.std.proofs.Common.{[], ◌∷◌, codes, refl}
use Rattle.std.proofs.lemmas.Result.{IfOk-weaker}
use Rattle.nextest_tree.specs.Leaf.{cause_of}
use Rattle.nextest_tree.specs.View.{tree_view}
use Rattle.nextest_elements.specs.MaxFail.{limit_at, limit_expected}
use Rattle.nextest_elements.specs.Positive.{a_positive, positive_at}
use Rattle.nextest_shape.specs.Faults.Found.{IsCause}
use Rattle.nextest_shape.specs.Faults.Values.{words_cause}
use Rattle.nextest_shape.proofs.faults.Words.{limit_number, limit_words}
use Rattle.nextest_shape.proofs.faults.leaf.limit_cause.Goals as goal

pub returns-in-Some : goal.returns-in-Some
unfolding a_positive
returns-in-Some c =
    let n = tree_view c.args.tree.now in
    IfOk-weaker c.element_cause.result (λ cause. IsCause cause (cause_of (positive_at n)))
    (λ cause. IsCause cause (cause_of (limit_at n)))
    (λ cause is. limit_number cause n c.in-Some.field-0 c.in-Some.ensures is)
    (c.element_cause.ensures (cause_of (positive_at n)) (λ p. refl))

pub returns-in-None : goal.returns-in-None
unfolding limit_expected
returns-in-None c =
    let n = tree_view c.args.tree.now in
    IfOk-weaker c.words_cause.result (λ cause. IsCause cause (words_cause (codes "all" ∷ []) limit_expected n))
    (λ cause. IsCause cause (cause_of (limit_at n)))
    (λ cause is. limit_words cause n c.in-None.ensures is) c.words_cause.ensures
