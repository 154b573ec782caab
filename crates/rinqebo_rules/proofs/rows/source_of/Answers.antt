use Rattle.rinqebo_origins.proofs.RowsMore.{marked}
use Rattle.rinqebo_rules.proofs.rows.source_of.Goals as goal

pub returns : goal.returns
returns g c = marked _ _ c.source_of.ensures.origin
