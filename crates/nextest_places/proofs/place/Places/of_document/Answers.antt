use Rattle.std.proofs.Common.{refl}
use Rattle.nextest_places.proofs.Sections.{whole_is}
use Rattle.nextest_places.proofs.Wholes.{known_whole}
use Rattle.nextest_places.proofs.place.Places.of_document.Goals as goal

pub of-requires : goal.of-requires
of-requires c = whole_is _ _ c.requires

pub invariant_of-result : goal.invariant_of-result
invariant_of-result c = known_whole c.args.text.now _ refl c.requires c.in_ok-index.ensures
