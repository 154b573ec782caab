use Rattle.std.proofs.Common.{◌∙◌, ap, map, subst}
use Rattle.rinqebo_origins.specs.RulePlaces.{id_place, place_view}
use Rattle.rinqebo_rules.proofs.OneList.{distinct_made}
use Rattle.rinqebo_rules.specs.Distinct.{AreDistinct}
use Rattle.rinqebo_rules.proofs.distinct.are_overrides_distinct.Goals as goal

pub returns : goal.returns
returns g c = λ known.
    distinct_made id_place _
    (subst AreDistinct (ap (map place_view) c.deref.ensures.value ∙ c.in_ok-places.ensures) (c.in_ok-found.ensures known))
