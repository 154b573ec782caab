use Rattle.rinqebo_findings.proofs.Values.{placed_in, placed_nowhere}
use Rattle.rinqebo_findings.proofs.findings.SourceAt.place_at.Goals as goal

pub returns-in-Some : goal.returns-in-Some
returns-in-Some c =
    placed_in c.args.part c.args.self.layers.now c.args.self.position c.in-Some.source c.args.path.now
    c.part_place.result c.in-Some.is c.part_place.ensures

pub returns-in-None : goal.returns-in-None
returns-in-None c =
    placed_nowhere c.args.part c.args.self.layers.now c.args.self.position c.args.path.now c.in-None.is
