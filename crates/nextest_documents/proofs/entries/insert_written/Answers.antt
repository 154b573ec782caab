use Rattle.std.proofs.Common.{◌≡◌, ◌++◌, Some, None, map, sym, ap, ◌∙◌, subst}
use Rattle.std.proofs.lemmas.List.{append-nil}
use Rattle.nextest_documents.specs.Shown.{Path}
use Rattle.nextest_tree.specs.View.{tree_view}
use Rattle.nextest_documents.specs.Along.{node_in}
use Rattle.nextest_documents.specs.Layers.{keys_view}
use Rattle.nextest_documents.specs.Leaves.{paths_view, leaf_paths}
use Rattle.nextest_documents.specs.Sections.{section_view, base_path}
use Rattle.nextest_documents.proofs.Lists.{In, in_map, contains_in}
use Rattle.nextest_documents.proofs.Results.{on_ok}
use Rattle.nextest_documents.proofs.Showing.{leaf_path, no_leaf_path}
use Rattle.nextest_documents.proofs.entries.insert_written.Goals as goal

pub returns-in_default-clause-added : goal.returns-in_default-clause-added
returns-in_default-clause-added c = λ p v is.
    let ls = c.args.layers.now in
    let b = base_path (section_view c.args.writer.section) in
    let base : keys_view c.deref.result.now ≡ b =
    ap keys_view c.deref.ensures.value ∙ c.in_ok-base.ensures ∙ append-nil b in
    let none : None ≡ node_in ls c.args.writer.layer b =
    rw c.in_default.is at c.node_in.ensures ∙ ap (λ q. node_in ls c.args.writer.layer q) base in
    absurd (no_leaf_path ls c.args.writer.layer b p v none is)

pub returns-clause-added : goal.returns-clause-added
returns-clause-added c =
    on_ok _ _ c.insert_all.result
    (λ added. λ p v is.
    let ls = c.args.layers.now in
    let b = base_path (section_view c.args.writer.section) in
    let n = tree_view c.in-Some.node.now in
    let base : keys_view c.deref.result.now ≡ b =
    ap keys_view c.deref.ensures.value ∙ c.in_ok-base.ensures ∙ append-nil b in
    let stands : Some n ≡ node_in ls c.args.writer.layer b =
    c.in-Some.ensures ∙ ap (λ q. node_in ls c.args.writer.layer q) base in
    let all : paths_view c.deref-2.result.now ≡ map (λ (q : Path). q) (leaf_paths n) =
    ap paths_view c.deref-2.ensures.value ∙ c.in_ok-add_leaf_paths.ensures
    ∙ ap (λ xs. paths_view xs ++ map (λ (q : Path). q) (leaf_paths n)) c.new-paths.ensures.items in
    let one : In p (map (λ (q : Path). q) (leaf_paths n)) =
    in_map (λ (q : Path). q) p (leaf_paths n) (leaf_path ls c.args.writer.layer b p v n stands is) in
    added p (contains_in p _ (subst (λ ps. In p ps) (sym all) one)))
    c.insert_all.ensures.added
