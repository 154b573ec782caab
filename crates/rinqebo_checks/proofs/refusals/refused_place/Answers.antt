use Rattle.nextest_elements.specs.OwnerView.{owner_view}
use Rattle.nextest_sources.specs.Errors.{source_of}
use Rattle.nextest_sources.specs.Sources.{path_view}
use Rattle.rinqebo_checks.proofs.Placing.{at_file, at_none}
use Rattle.rinqebo_checks.proofs.refusals.refused_place.Goals as goal

pub returns-in-Some : goal.returns-in-Some
returns-in-Some c =
    at_file c.args.layers.now (source_of c.args.error.now) (owner_view c.refused_owner.result)
    (path_view c.in-Some.path.now) c.place_at.result c.in-Some.ensures.path c.refused_owner.ensures c.place_at.ensures

pub returns-in-None : goal.returns-in-None
returns-in-None c = at_none c.args.layers.now (source_of c.args.error.now) c.in-None.ensures.path
