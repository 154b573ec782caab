use Rattle.std.proofs.Common.{subst}
use Rattle.nextest_sources.specs.Sources.{source_view}
use Rattle.nextest_sources.proofs.Runs.{ran_exit}
use Rattle.nextest_tree.specs.View.{tree_view}
use Rattle.nextest_load.specs.Kept.{IsKept}
use Rattle.nextest_load.specs.Steps.{element_cause}
use Rattle.nextest_load.proofs.Parting.{kept_is, no_cause_found}
use Rattle.nextest_load.proofs.Merging.{elements_ended}
use Rattle.nextest_load.proofs.Tools.{spent_first}
use Rattle.nextest_load.proofs.merged.read_merged.Goals as goal

pub returns-in_err-table-clause-ran : goal.returns-in_err-table-clause-ran
returns-in_err-table-clause-ran c told =
    let e = c.in_err-table.field-0.0 in
    ran_exit _ told told _ e c.from_residual.ensures.1
    (elements_ended (source_view c.args.repository.now) (tree_view c.args.tree.now) told e
    c.in_err-table.ensures.found)

pub returns-in_err-kept-clause-ran : goal.returns-in_err-kept-clause-ran
returns-in_err-kept-clause-ran c told = spent_first _ told _ c.from_residual-in_err-kept.ensures.1

pub returns-clause-ran : goal.returns-clause-ran
returns-clause-ran c told =
    let n = tree_view c.args.tree.now in
    let sound = no_cause_found (source_view c.args.repository.now) (element_cause n) c.in_ok-table.ensures.found in
    let is : IsKept n c.in_ok-kept.kept = kept_is n c.in_ok-table.table c.in_ok-kept.kept sound
    c.in_ok-table.ensures.value c.in_ok-table.ensures.scripts c.in_ok-table.ensures.complete c.in_ok-kept.ensures in
    c.merged_tables.ensures.ran n is told

pub returns-clause-means : goal.returns-clause-means
returns-clause-means c =
    let n = tree_view c.args.tree.now in
    let sound = no_cause_found (source_view c.args.repository.now) (element_cause n) c.in_ok-table.ensures.found in
    let is : IsKept n c.in_ok-kept.kept = kept_is n c.in_ok-table.table c.in_ok-kept.kept sound
    c.in_ok-table.ensures.value c.in_ok-table.ensures.scripts c.in_ok-table.ensures.complete c.in_ok-kept.ensures in
    c.merged_tables.ensures.means n is

pub returns-clause-scripts : goal.returns-clause-scripts
returns-clause-scripts c ss are same =
    let n = tree_view c.args.tree.now in
    let sound = no_cause_found (source_view c.args.repository.now) (element_cause n) c.in_ok-table.ensures.found in
    let is : IsKept n c.in_ok-kept.kept = kept_is n c.in_ok-table.table c.in_ok-kept.kept sound
    c.in_ok-table.ensures.value c.in_ok-table.ensures.scripts c.in_ok-table.ensures.complete c.in_ok-kept.ensures in
    c.merged_tables.ensures.scripts ss (subst (λ m. IsKept m c.in_ok-kept.kept) same is) are

pub returns-clause-defaults : goal.returns-clause-defaults
returns-clause-defaults c files merged =
    let n = tree_view c.args.tree.now in
    let sound = no_cause_found (source_view c.args.repository.now) (element_cause n) c.in_ok-table.ensures.found in
    let is : IsKept n c.in_ok-kept.kept = kept_is n c.in_ok-table.table c.in_ok-kept.kept sound
    c.in_ok-table.ensures.value c.in_ok-table.ensures.scripts c.in_ok-table.ensures.complete c.in_ok-kept.ensures in
    c.merged_tables.ensures.defaults n files is merged
