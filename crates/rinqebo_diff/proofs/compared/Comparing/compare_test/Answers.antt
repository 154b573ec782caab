use Rattle.std.proofs.Common.{refl}
use Rattle.filter_inputs.specs.Lists.ListView.{list_test_view}
use Rattle.rinqebo_changes.specs.Sides.Matched.{pair_view}
use Rattle.rinqebo_diff.proofs.Comparing.{adds_lacking, adds_test}
use Rattle.rinqebo_diff.proofs.compared.Comparing.compare_test.Goals as goal

pub returns-in_ok-add-clause-compared : goal.returns-in_ok-add-clause-compared
returns-in_ok-add-clause-compared g c =
    adds_test _ _ _ _ _ (list_test_view c.args.test) (pair_view c.in-Some.pair) c.in_ok-changes.changes
    c.args.self.now.found c.add.new.self c.in-Some.ensures c.in_ok-changes.ensures.changes c.in_ok-add.ensures

pub returns-in_default-clause-compared : goal.returns-in_default-clause-compared
returns-in_default-clause-compared g c =
    adds_lacking _ _ _ _ _ (list_test_view c.args.test) c.args.self.now.found c.args.self.now.found c.in_default.ensures refl refl
