use Rattle.std.proofs.Common.{◌≡◌, Some, option_map, sym, ap, ◌∙◌}
use Rattle.nextest_tables.specs.Defaults.{defaults}
use Rattle.nextest_tables.proofs.Defaulting.{sorted}
use Rattle.nextest_tree.specs.View.{tree_view}
use Rattle.nextest_load.specs.Loading.{tree_so_far}
use Rattle.nextest_load.specs.Trees.{tree_in}
use Rattle.nextest_load.proofs.Laying.{source_laid, lowest_laid}
use Rattle.nextest_load.proofs.SortedTrees.{source_sorted}
use Rattle.nextest_load.proofs.load.lay_source.Goals as goal

pub returns-in_ok-lay_upon-in-Some-clause-merged : goal.returns-in_ok-lay_upon-in-Some-clause-merged
returns-in_ok-lay_upon-in-Some-clause-merged c ss s so_far is =
    let below = tree_view c.in-Some.below in
    let was : Some below ≡ tree_so_far ss = sym (ap (option_map tree_view) c.in-Some.is) ∙ so_far in
    let parts = c.in_ok-tree-in-Some.ensures (tree_in s) defaults (source_sorted s) sorted is in
    source_laid ss s below (tree_view c.in_ok-tree-in-Some.tree) _ was parts.0 c.in_ok-lay_upon-in-Some.ensures.tree

pub returns-in_ok-lay_upon-in-Some-clause-defaults : goal.returns-in_ok-lay_upon-in-Some-clause-defaults
returns-in_ok-lay_upon-in-Some-clause-defaults c s is =
    (c.in_ok-tree-in-Some.ensures (tree_in s) defaults (source_sorted s) sorted is).1

pub returns-in-None-clause-merged : goal.returns-in-None-clause-merged
returns-in-None-clause-merged c ss s so_far is =
    lowest_laid ss s (tree_view c.args.laid.tree) (sym (ap (option_map tree_view) c.in-None.is) ∙ so_far) is.tree
