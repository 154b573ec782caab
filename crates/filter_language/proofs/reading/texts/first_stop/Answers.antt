use Rattle.filter_language.proofs.Stops.{place_is}
use Rattle.filter_language.proofs.reading.texts.first_stop.Goals as goal

pub returns : goal.returns
returns c = place_is _ _ _ c.requires c.find.ensures.cases
