use Rattle.std.proofs.Common.{◌≡◌, length, map, ap, ◌∙◌, subst}
use Rattle.std.specs.List.{AllByRecursion}
use Rattle.nextest_documents.specs.Entries.{leaf_view}
use Rattle.nextest_documents.specs.Layers.{layers_view, keys_view}
use Rattle.nextest_documents.specs.Leaves.{paths_view}
use Rattle.nextest_documents.specs.Writers.{writer_view, writers, IsFound, AreAllFound}
use Rattle.nextest_documents.proofs.Concluding.{conclude}
use Rattle.nextest_documents.proofs.Results.{if_both}
use Rattle.nextest_documents.proofs.Writing.{HasPaths}
use Rattle.nextest_documents.proofs.entries.entries_of.Goals as goal

pub returns : goal.returns
returns c =
    let ls = c.args.layers.now in
    let chain = keys_view c.args.chain.now in
    let keys = keys_view c.args.keys.now in
    let wh = c.args.with_hidden in
    let ps = paths_view c.in_ok-paths.paths.keys in
    let ws : map writer_view c.deref.result.now ≡ writers chain (length ls) =
    ap (map writer_view) c.deref.ensures.value ∙ c.in_ok-writers.ensures in
    let same : map writer_view c.deref-2.result.now ≡ writers chain (length ls) =
    ap (map writer_view) c.deref-2.ensures.value ∙ c.in_ok-writers.ensures in
    let has = subst (AllByRecursion (HasPaths ls ps)) ws c.in_ok-paths.ensures in
    if_both _ _ _ c.entries_at.result
    (λ entries found ascend.
    conclude ls chain keys wh ps (map leaf_view entries.items) has
    (subst (λ w. AreAllFound (IsFound (layers_view ls) keys wh) w ps (map leaf_view entries.items)) same found) ascend)
    c.entries_at.ensures.found c.entries_at.ensures.ascend
