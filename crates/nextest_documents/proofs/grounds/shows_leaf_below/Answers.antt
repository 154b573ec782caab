use Rattle.std.proofs.Common.{rules, ◌≡◌, ℕ, ◌≤◌, List, ◌++◌, length, map, None, sym, ap, ◌∙◌, subst}
use Rattle.std.proofs.lemmas.Bool.{true≢false}
use Rattle.std.proofs.lemmas.List.{length-map, take_all}
use Rattle.std.specs.List.{AllByRecursion}
use Rattle.nextest_tree.specs.View.{tree_view}
use Rattle.nextest_documents.specs.Along.{node_in}
use Rattle.nextest_documents.specs.Grounds.{ShowsLeaf}
use Rattle.nextest_documents.specs.Layers.{layers_view, keys_view}
use Rattle.nextest_documents.specs.Leaves.{paths_view, leaf_paths}
use Rattle.nextest_documents.proofs.Lists.{In, in_at, in_map, all_taken, never}
use Rattle.nextest_documents.proofs.Showing.{none_below, none_of_all, one_of_all}
use Rattle.nextest_documents.proofs.grounds.shows_leaf_below.Goals as goal

pub returns-in_default : goal.returns-in_default
returns-in_default c = (
  λ yes. never yes,
  λ shows.
      let none : node_in c.args.layers.now c.args.position (keys_view c.args.path.now) ≡ None =
      sym c.node_in.ensures ∙ rw c.in_default.is in
      absurd (none_below c.args.layers.now c.args.position (keys_view c.args.path.now) none shows),
)

pub returns-then-shows_leaf : goal.returns-then-shows_leaf
returns-then-shows_leaf c = (
  λ yes.
      let p = keys_view c.args.path.now in
      let items = c.deref-leaf-items.result.now in
      let n = tree_view c.in-Some.node.now in
      let all : paths_view items ≡ map (λ q. p ++ q) (leaf_paths n) =
      ap paths_view c.deref-leaf-items.ensures.value ∙ c.in_ok-add_leaf_paths.ensures
      ∙ ap (λ xs. paths_view xs ++ map (λ q. p ++ q) (leaf_paths n)) c.new-leaves.ensures.items in
      let leaf = c.leaf-item.result in
      let is_one : In (keys_view leaf.items) (paths_view items) =
      in_map (λ path. keys_view path.items) leaf items
      (in_at items c.loop-leaf.leaf-index leaf c.loop-leaf-test.true c.leaf-item.is) in
      let shows = subst (λ keys. ShowsLeaf (layers_view c.args.layers.now) (keys_view keys) c.args.position)
      c.deref.ensures.value (c.shows_leaf.ensures.0 c.if-shows_leaf.true) in
      one_of_all c.args.layers.now c.args.position p n (paths_view items) c.in-Some.ensures all
      (keys_view leaf.items) is_one shows,
  λ shows. search rules,
)

pub loop-leaf-preserved : goal.loop-leaf-preserved
loop-leaf-preserved c =
    let L = layers_view c.args.layers.now in
    let items = c.deref-leaf-items.result.now in
    let leaf = c.leaf-item.result in
    let Hidden : List (List ℕ) → Type 0 = λ q. ShowsLeaf L q c.args.position → ⊥ in
    let not : Hidden (keys_view leaf.items) =
    subst (λ keys. Hidden (keys_view keys)) c.deref.ensures.value
    (λ shows. true≢false (sym (c.shows_leaf.ensures.1 shows) ∙ c.if-shows_leaf.false)) in
    all_taken (λ path. keys_view path.items) items c.loop-leaf.leaf-index leaf c.loop-leaf-test.true Hidden
    c.loop-leaf.invariant (subst (λ path. Hidden (keys_view path.items)) c.leaf-item.is not)

pub returns : goal.returns
returns c = (
  λ yes. never yes,
  λ shows.
      let p = keys_view c.args.path.now in
      let items = c.deref-leaf-items.result.now in
      let n = tree_view c.in-Some.node.now in
      let all : paths_view items ≡ map (λ q. p ++ q) (leaf_paths n) =
      ap paths_view c.deref-leaf-items.ensures.value ∙ c.in_ok-add_leaf_paths.ensures
      ∙ ap (λ xs. paths_view xs ++ map (λ q. p ++ q) (leaf_paths n)) c.new-leaves.ensures.items in
      let P : List (List ℕ) → Type 0 = λ q. ShowsLeaf (layers_view c.args.layers.now) q c.args.position → ⊥ in
      let count : length (paths_view items) ≤ c.loop-leaf.leaf-index =
      rw (length-map items (λ path. keys_view path.items)) c.loop-leaf-test.false in
      let none : AllByRecursion P (paths_view items) =
      subst (AllByRecursion P) (take_all c.loop-leaf.leaf-index (paths_view items) count) c.loop-leaf.invariant in
      absurd (none_of_all c.args.layers.now c.args.position p n (paths_view items) c.in-Some.ensures all none shows),
)
