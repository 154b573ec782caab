use Rattle.std.proofs.Common.{◌≡◌, [], ◌∷◌, ◌++◌, List, map, string_bytes, sym, ap, ◌∙◌, append_assoc}
use Rattle.nextest_tree.specs.View.{tree_view}
use Rattle.rinqebo_origins.specs.Origins.{PathStep, key, step_view}
use Rattle.rinqebo_origins.specs.SpelledLeaves.{leaves_in, spelled_view, spot_view}
use Rattle.rinqebo_origins.proofs.SpelledLeaves.{Member, one_item, one_member}
use Rattle.rinqebo_origins.proofs.spelled.+add_leaves.Goals as goal

pub add_members-loop-key-preserved : goal.add_members-loop-key-preserved
add_members-loop-key-preserved t c =
    let l = c.loop-key in
    let done = l.invariant.0 in
    let e : Member = (c.in-Some.key.now, c.in-Some.member.now) in
    let left = c.next.new.self in
    let steps = map step_view c.args.steps.now in
    let spot = spot_view c.args.spot in
    let longer = map step_view c.in_ok-longer.longer.items in
    let long : longer ≡ steps ++ key (string_bytes e.0) ∷ [] =
    c.in_ok-longer.ensures ∙ ap (λ k. steps ++ key k ∷ []) c.as_str.ensures.value in
    let added : map spelled_view c.add_leaves.new.leaves.items
    ≡ map spelled_view l.leaves.items ++ leaves_in spot longer (tree_view e.1) =
    c.in_ok-add_leaves.ensures
    ∙ ap (λ ks. map spelled_view l.leaves.items ++ leaves_in spot (map step_view ks) (tree_view e.1))
    c.deref.ensures.value in (
      done ++ e ∷ [],
      l.invariant.1 ∙ ap (λ es. done ++ es) c.in-Some.ensures.steps ∙ sym (append_assoc done (e ∷ []) left),
      one_member spot steps longer e done (map spelled_view c.args.leaves.now.items)
          (map spelled_view l.leaves.items) (map spelled_view c.add_leaves.new.leaves.items) long l.invariant.2 added,
    )

pub add_items-loop-position-preserved : goal.add_items-loop-position-preserved
add_items-loop-position-preserved t c =
    let l = c.loop-position in
    let steps = map step_view c.args.steps.now in
    let spot = spot_view c.args.spot in
    let longer = map step_view c.in_ok-longer.longer.items in
    let added : map spelled_view c.add_leaves.new.leaves.items
    ≡ map spelled_view l.leaves.items ++ leaves_in spot longer (tree_view c.index-items-position.result) =
    c.in_ok-add_leaves.ensures
    ∙ ap (λ ks. map spelled_view l.leaves.items ++ leaves_in spot (map step_view ks) (tree_view c.index-items-position.result))
    c.deref.ensures.value in
    one_item spot steps longer c.args.items.now l.position c.index-items-position.result c.index-items-position.result
    (map spelled_view c.args.leaves.now.items) (map spelled_view l.leaves.items)
    (map spelled_view c.add_leaves.new.leaves.items) c.loop-position-test.true c.index-items-position.is c.in_ok-longer.ensures
    l.invariant added
