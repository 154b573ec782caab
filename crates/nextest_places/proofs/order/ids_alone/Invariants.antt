use Rattle.std.proofs.Common.{◌≡◌, ◌++◌, map, string_bytes}
use Rattle.nextest_places.specs.Ids.{placed_id}
use Rattle.nextest_places.proofs.order.ids_alone.Given as goal

abbrev pub invariant-loop-placed_id : goal.invariant-loop-placed_id
invariant-loop-placed_id l =
    map string_bytes l.ids.items ++ map placed_id l.placed_id-iterator.rest.items
    ≡ map placed_id l.fn.placed.items
