use Rattle.rinqebo_findings.proofs.refused.highest_place.Goals as goal

pub returns-then-is_some : goal.returns-then-is_some
returns-then-is_some c = (c.in-Some.source, c.part_place-place.ensures)
