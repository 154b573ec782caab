use Rattle.std.proofs.Common.{◌∙◌, ◌∷◌, [], ◌++◌, ap, filter, map, not}
use Rattle.filter_inputs.specs.Lists.ListView.{list_test_view}
use Rattle.rinqebo_changes.specs.Sides.Matched.{is_in, tests_of}
use Rattle.rinqebo_changes.proofs.sides.Matching.{cases_alone}
use Rattle.rinqebo_changes.proofs.sides.matched.add_alone_of.Goals as goal

pub loop-case-preserved : goal.loop-case-preserved
loop-case-preserved c =
    let others = tests_of c.args.others.now in
    cases_alone others c.args.binary.now c.deref-case-items.result.now c.loop-case.case-index c.case-item.result
    c.case-item.result c.deref-case-items.ensures.value c.loop-case-test.true c.case-item.is
    (map list_test_view c.args.found.now.items) (map list_test_view c.loop-case.found.items) _ c.loop-case.invariant
    (c.in_ok-add_alone.ensures ∙ ap (λ t. map list_test_view c.loop-case.found.items
    ++ filter (λ u. not (is_in others u)) (t ∷ [])) c.test_of.ensures)
