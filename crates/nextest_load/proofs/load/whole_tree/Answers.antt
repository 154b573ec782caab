use Rattle.std.proofs.Common.{◌≡◌, [], None, option_map, sym, ap, ◌∙◌}
use Rattle.std.proofs.lemmas.Result.{IfOk-weaker}
use Rattle.nextest_tree.specs.View.{tree_view}
use Rattle.nextest_load.specs.Loading.{tree_so_far}
use Rattle.nextest_load.specs.Trees.{merged_tree}
use Rattle.nextest_load.proofs.Wholes.{whole_is, whole_none}
use Rattle.nextest_load.proofs.load.whole_tree.Goals as goal

pub returns-in-Some : goal.returns-in-Some
returns-in-Some c ss so_far =
    whole_is ss (tree_view c.in-Some.tree) (sym (ap (option_map tree_view) c.in-Some.is) ∙ so_far)

pub returns-in-None : goal.returns-in-None
returns-in-None c ss so_far =
    let none : None ≡ tree_so_far ss = sym (ap (option_map tree_view) c.in-None.is) ∙ so_far in
    IfOk-weaker c.default_tree.result (λ tree. tree_view tree ≡ merged_tree []) _
    (λ tree is. whole_none ss (tree_view tree) none is) c.default_tree.ensures
