use Rattle.std.proofs.Common.{map, option_map}
use Rattle.rinqebo_origins.specs.RulePlaces.{place_view}
use Rattle.rinqebo_rules.proofs.OneList.{SoFar}
use Rattle.rinqebo_rules.proofs.distinct.are_distinct.Given as goal

-- the rules so far are distinct
abbrev pub invariant-loop-place : goal.invariant-loop-place
invariant-loop-place l =
    SoFar (map place_view l.places) l.place-index (map place_view l.firsts.items) (option_map place_view l.last)
