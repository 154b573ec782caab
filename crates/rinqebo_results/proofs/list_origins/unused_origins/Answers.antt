use Rattle.std.proofs.Common.{◌∙◌, [], IfOk, ap, map, subst}
use Rattle.std.specs.List.{AllZip}
use Rattle.rinqebo_origins.specs.Origins.{IsOriginOf}
use Rattle.rinqebo_origins.specs.RulePlaces.{place_view}
use Rattle.rinqebo_results.proofs.list_origins.unused_origins.Goals as goal

pub returns : goal.returns
returns c =
    subst (λ places. IfOk c.origins_of_rules.result (λ origins.
    AllZip (λ place. IsOriginOf c.args.layers.now place []) places origins.items))
    (ap (map place_view) c.deref.ensures.value ∙ c.in_ok-places.ensures) c.origins_of_rules.ensures
