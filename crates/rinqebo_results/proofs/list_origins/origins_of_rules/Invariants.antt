use Rattle.std.proofs.Common.{[], take}
use Rattle.std.specs.List.{AllZip}
use Rattle.rinqebo_origins.specs.Origins.{IsOriginOf}
use Rattle.rinqebo_origins.specs.RulePlaces.{place_view}
use Rattle.rinqebo_results.proofs.list_origins.origins_of_rules.Given as goal

-- the rules so far
abbrev pub invariant-loop-rule : goal.invariant-loop-rule
invariant-loop-rule l =
    AllZip (λ place. IsOriginOf l.layers (place_view place) []) (take l.rule-index l.rules) l.origins.items
