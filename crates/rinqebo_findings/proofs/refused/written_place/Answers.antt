use Rattle.std.proofs.Common.{inl, subst}
use Rattle.rinqebo_findings.specs.Placed.{IsPlaceIn}
use Rattle.rinqebo_findings.proofs.Values.{not_some, placed_elsewhere}
use Rattle.rinqebo_findings.proofs.refused.written_place.Goals as goal

pub returns-in-None : goal.returns-in-None
returns-in-None c =
    λ source own_is. inl (subst (IsPlaceIn c.args.part c.args.layers.now source c.args.path.now) c.in-Some.is own_is)

pub returns-then-is_some : goal.returns-then-is_some
returns-then-is_some c =
    λ source own_is. inl (subst (IsPlaceIn c.args.part c.args.layers.now source c.args.path.now) c.in-Some.is own_is)

pub returns-in-Some-highest_place : goal.returns-in-Some-highest_place
returns-in-Some-highest_place c =
    λ source own_is. placed_elsewhere c.args.part c.args.layers.now source c.args.path.now c.args.place c.in-Some.own
    c.in-Some-highest_place.other c.in-Some.is
    (not_some c.in-Some.own.lines c.is_some.result c.is_some.ensures c.if-is_some.false)
    c.in-Some-highest_place.ensures own_is
