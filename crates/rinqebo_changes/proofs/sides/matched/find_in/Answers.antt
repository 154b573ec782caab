use Rattle.std.proofs.Common.{◌∙◌, Contains, ap, subst, sym}
use Rattle.std.proofs.lemmas.Bool.{not-true}
use Rattle.std.specs.Prelude.{bytes_eq}
use Rattle.filter_inputs.specs.Lists.Lists.{tests_in}
use Rattle.filter_inputs.specs.Lists.ListView.{list_test_view, listed_view}
use Rattle.rinqebo_changes.proofs.sides.Matching.{case_there, not_in_other}
use Rattle.rinqebo_changes.proofs.sides.matched.find_in.Goals as goal

pub returns-then-ne : goal.returns-then-ne
returns-then-ne c =
    let id = c.args.test.now.query.binary_query.binary_id.now in
    not_in_other c.args.binary.now (list_test_view c.args.test.now)
    (ap (λ own. bytes_eq own id) (sym c.as_str.ensures.value)
    ∙ not-true (bytes_eq c.as_str.result.now id) (sym c.ne.ensures ∙ c.if-ne.true))

pub returns-then-is_same_test : goal.returns-then-is_same_test
returns-then-is_same_test c =
    let binary = c.args.binary.now in
    record {
      here = subst (Contains (tests_in (listed_view binary))) (sym c.test_of-one.ensures)
          (case_there binary c.deref-case-items.result.now c.loop-case.case-index c.case-item.result c.case-item.result
          c.deref-case-items.ensures.value c.loop-case-test.true c.case-item.is);
      same = sym c.is_same_test.ensures ∙ c.if-is_same_test.true;
    }
