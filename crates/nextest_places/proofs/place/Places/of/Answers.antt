use Rattle.nextest_places.proofs.Sections.{whole_is}
use Rattle.nextest_places.proofs.place.Places.of.Goals as goal

-- the longest front that is a document is one as a text of its own
pub of-requires-2 : goal.of-requires-2
of-requires-2 c = rw c.front.ensures (whole_is _ _ c.in_ok-count.ensures.is)
