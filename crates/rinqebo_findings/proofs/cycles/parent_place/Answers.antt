use Rattle.rinqebo_findings.proofs.cycles.parent_place.Goals as goal

pub returns : goal.returns
returns c = record { steps = c.parent_path-path.result; are = c.parent_path-path.ensures; is = c.place_at.ensures }
