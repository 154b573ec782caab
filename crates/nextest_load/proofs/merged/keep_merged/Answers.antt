use Rattle.std.proofs.Common.{subst}
use Rattle.std.specs.Prelude.{IfSome}
use Rattle.nextest_tree.specs.View.{tree_view}
use Rattle.nextest_load.specs.Kept.{IsKept}
use Rattle.nextest_load.proofs.merged.keep_merged.Goals as goal

pub returns-in-Some-clause-ran : goal.returns-in-Some-clause-ran
returns-in-Some-clause-ran c is told =
    c.merged_tables.ensures.ran (tree_view c.args.tree.now)
    (subst (λ k. IfSome k (IsKept (tree_view c.args.tree.now))) c.in-Some.is is) told

pub returns-in-Some-clause-means : goal.returns-in-Some-clause-means
returns-in-Some-clause-means c is =
    c.merged_tables.ensures.means (tree_view c.args.tree.now)
    (subst (λ k. IfSome k (IsKept (tree_view c.args.tree.now))) c.in-Some.is is)

pub returns-in-Some-clause-scripts : goal.returns-in-Some-clause-scripts
returns-in-Some-clause-scripts c ss is are same =
    let kept = subst (λ k. IfSome k (IsKept (tree_view c.args.tree.now))) c.in-Some.is is in
    c.merged_tables.ensures.scripts ss (subst (λ m. IsKept m c.in-Some.kept) same kept) are

pub returns-in-Some-clause-defaults : goal.returns-in-Some-clause-defaults
returns-in-Some-clause-defaults c files is merged =
    c.merged_tables.ensures.defaults (tree_view c.args.tree.now) files
    (subst (λ k. IfSome k (IsKept (tree_view c.args.tree.now))) c.in-Some.is is) merged
