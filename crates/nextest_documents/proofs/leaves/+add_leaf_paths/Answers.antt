use Rattle.std.proofs.Common.{◌≡◌, [], ◌∷◌, ◌++◌, map, string_bytes, sym, ap, ◌∙◌, append_assoc}
use Rattle.nextest_tree.specs.View.{tree_view}
use Rattle.nextest_documents.specs.Layers.{keys_view}
use Rattle.nextest_documents.specs.Leaves.{paths_view, leaf_paths}
use Rattle.nextest_documents.proofs.LeafPaths.{LayerLeaf, one_more}
use Rattle.nextest_documents.proofs.leaves.+add_leaf_paths.Goals as goal

pub add_member_paths-loop-key-preserved : goal.add_member_paths-loop-key-preserved
add_member_paths-loop-key-preserved t c =
    let l = c.loop-key in
    let done = l.invariant.0 in
    let e : LayerLeaf = (c.in-Some.key.now, c.in-Some.member.now) in
    let left = c.next.new.self in
    let front = keys_view c.args.path.now in
    let longer = keys_view c.in_ok-longer.longer.items in
    let long : longer ≡ front ++ string_bytes e.0 ∷ [] =
    c.in_ok-longer.ensures ∙ ap (λ k. front ++ k ∷ []) c.as_str.ensures.value in
    let added : paths_view c.add_leaf_paths.new.paths.items
    ≡ paths_view l.paths.items ++ map (λ p. longer ++ p) (leaf_paths (tree_view e.1)) =
    c.in_ok-add_leaf_paths.ensures
    ∙ ap (λ ks. paths_view l.paths.items ++ map (λ p. keys_view ks ++ p) (leaf_paths (tree_view e.1)))
    c.deref.ensures.value in (
      done ++ e ∷ [],
      l.invariant.1 ∙ ap (λ es. done ++ es) c.in-Some.ensures.steps ∙ sym (append_assoc done (e ∷ []) left),
      one_more front longer e done (paths_view c.args.paths.now.items) (paths_view l.paths.items)
          (paths_view c.add_leaf_paths.new.paths.items) long l.invariant.2 added,
    )
