use Rattle.std.proofs.Common.{◌≡◌, ◌<◌, length, map, string_bytes, arith, rules}
use Rattle.std.proofs.lemmas.Fn.{always_returns_same}
use Rattle.std.proofs.lemmas.List.{length-map}
use Rattle.std.proofs.lemmas.List.Sorted.{IsNonDecreasingBy-from_sort_by_key}
use Rattle.std.proofs.lemmas.Result.{IfOk-weaker}
use Rattle.std.specs.List.Sorted.{IsNonDecreasingBy}
use Rattle.nextest_tree.specs.View.{tree_view}
use Rattle.nextest_places.specs.Ids.{placed_id}
use Rattle.nextest_places.specs.Order.{IsOrder}
use Rattle.nextest_places.specs.Standing.{ids_view, key_path_view}
use Rattle.nextest_places.proofs.Ordered.{all_stand, few_order, sorted_order}
use Rattle.nextest_places.proofs.Sections.{whole_is}
use Rattle.nextest_places.proofs.order.ids_in_order.Goals as goal

pub returns-then-len-lt2 : goal.returns-then-len-lt2
returns-then-len-lt2 c =
    let ids = c.in_ok-ids.ids in
    let few : length (ids_view ids) < 2 = rw (length-map ids.items string_bytes) (grind arith) in
    record {
      declared = few_order (key_path_view c.args.path.now) c.args.text.now (tree_view c.args.document.now) c.requires
          (ids_view ids) c.in_ok-ids.ensures.ids few;
    }

pub placed_ids-requires-clause-whole : goal.placed_ids-requires-clause-whole
placed_ids-requires-clause-whole c = whole_is c.args.text.now (tree_view c.args.document.now) c.requires

pub placed_ids-requires-clause-stand : goal.placed_ids-requires-clause-stand
placed_ids-requires-clause-stand c =
    all_stand (key_path_view c.args.path.now) c.args.text.now (tree_view c.args.document.now) c.requires
    (ids_view c.in_ok-ids.ids) c.in_ok-ids.ensures.ids

pub returns : goal.returns
returns c =
    let path = key_path_view c.args.path.now in
    let text = c.args.text.now in
    let ids = ids_view c.in_ok-ids.ids in
    let xs = c.in_ok-placed.placed.items in
    let ys = c.sort_by_key.new.self.items in
    let sort = c.in_ok-sort_by_key.ensures in
    let up : IsNonDecreasingBy (λ p. p.last) ys =
    IsNonDecreasingBy-from_sort_by_key (λ p. p.last) ys sort.sorted (λ a r q k. search rules) in
    let stable = sort.stable (λ p. p.last) (always_returns_same _ _ _ (λ a r q k. search rules)) in
    let order : IsOrder path text (map placed_id ys) =
    sorted_order path text (tree_view c.args.document.now) c.requires ids c.in_ok-ids.ensures.ids xs ys
    c.in_ok-placed.ensures.ids c.in_ok-ids.ensures.ascends c.in_ok-placed.ensures.places sort.permutation up stable in
    record {
      declared = IfOk-weaker c.ids_alone.result (λ ids. ids_view ids ≡ map placed_id ys)
          (λ ids. IsOrder path text (ids_view ids)) (λ ids is. rw is order) c.ids_alone.ensures;
    }
