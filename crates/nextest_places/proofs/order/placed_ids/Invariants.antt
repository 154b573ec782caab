use Rattle.std.proofs.Common.{◌≡◌, ◌++◌, true, map, string_bytes}
use Rattle.std.specs.List.{AllByRecursion}
use Rattle.nextest_places.specs.Ids.{placed_id}
use Rattle.nextest_places.specs.Order.{IsPlace}
use Rattle.nextest_places.specs.Standing.{ids_view, key_path_view, stands_in}
use Rattle.nextest_places.proofs.IdPlaces.{AreKnown}
use Rattle.nextest_places.proofs.order.placed_ids.Given as goal

abbrev pub invariant-loop-id : goal.invariant-loop-id
invariant-loop-id l =
    (map placed_id l.placed.items ++ map string_bytes l.id-iterator.rest.items ≡ ids_view l.fn.ids)
    × AllByRecursion (λ p. IsPlace (key_path_view l.fn.path) l.fn.text (placed_id p) p.last) l.placed.items
    × AllByRecursion (λ id. stands_in (key_path_view l.fn.path) l.fn.text id ≡ true)
    (map string_bytes l.id-iterator.rest.items)
    × AreKnown l.fn.text l.low l.found l.fronts.items l.rest l.id-iterator.rest.items
