use Rattle.std.proofs.Common.{IfSome, map, subst, sym, ap, ◌∙◌}
use Rattle.nextest_sources.specs.Endings.{passed, error_view, Ran}
use Rattle.nextest_sources.specs.Sources.{source_view}
use Rattle.nextest_sources.proofs.Runs.{ran_exit}
use Rattle.nextest_tables.specs.Complete.{IsMergedTree}
use Rattle.nextest_tables.specs.FileTexts.{file_text}
use Rattle.nextest_tree.specs.Node.{Node}
use Rattle.nextest_load.specs.Kept.{IsKept}
use Rattle.nextest_load.specs.Merged.{tables_of}
use Rattle.nextest_load.specs.Steps.{tree_steps}
use Rattle.nextest_load.specs.Trees.{tree_in}
use Rattle.nextest_load.proofs.Tools.{spent_first}
use Rattle.nextest_load.proofs.load.merge.Goals as goal

pub returns-in_err-tree-clause-ran : goal.returns-in_err-tree-clause-ran
returns-in_err-tree-clause-ran g c ss so_far kept told = spent_first _ told _ c.from_residual.ensures.1

pub returns-in_err-tables-clause-ran : goal.returns-in_err-tables-clause-ran
returns-in_err-tables-clause-ran g c ss so_far kept told =
    let K : Node → Type 0 = λ n. IfSome c.args.loaded.kept (IsKept n) in
    let e = c.in_err-tables.field-0.0 in
    let P : Node → Type 0 = λ n. Ran (tree_steps (source_view c.args.repository.now) n) told told (error_view e) in
    ran_exit _ told told _ e c.from_residual-in_err-tables.ensures.1
    (subst P (c.in_ok-tree.ensures ss so_far)
    (c.in_err-tables.ensures.ran (subst K (sym (c.in_ok-tree.ensures ss so_far)) kept) told))

pub returns-clause-ran : goal.returns-clause-ran
returns-clause-ran g c ss so_far kept told =
    let K : Node → Type 0 = λ n. IfSome c.args.loaded.kept (IsKept n) in
    let P : Node → Type 0 = λ n. Ran (tree_steps (source_view c.args.repository.now) n) told told passed in
    subst P (c.in_ok-tree.ensures ss so_far)
    (c.in_ok-tables.ensures.ran (subst K (sym (c.in_ok-tree.ensures ss so_far)) kept) told)

pub returns-clause-parts : goal.returns-clause-parts
returns-clause-parts g c ss so_far kept names =
    let same = c.in_ok-tree.ensures ss so_far in
    let K : Node → Type 0 = λ n. IfSome c.args.loaded.kept (IsKept n) in
    let is = subst K (sym same) kept in
    let Q : Node → Type 0 = λ n. IsMergedTree (map tree_in ss) n in
    record {
      means = c.in_ok-tables.ensures.means is ∙ ap (λ n. tables_of (file_text n)) same;
      scripts = c.in_ok-tables.ensures.scripts ss is names same;
      defaults = λ merged. c.in_ok-tables.ensures.defaults (map tree_in ss) is (subst Q (sym same) merged);
    }
