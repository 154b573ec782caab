use Rattle.nextest_places.proofs.spans.Rising.{positions_rise}
use Rattle.nextest_places.proofs.spans.law.law_positions_rise.Goals as goal

pub returns : goal.returns
returns c = positions_rise
