use Rattle.nextest_places.proofs.Wholes.{part_known, whole_known}
use Rattle.nextest_places.proofs.place.Places.document.Goals as goal

pub returns-then-self : goal.returns-then-self
returns-then-self c =
    rw (← c.self.view_is)
    (whole_known c.self.inside.text.now c.self.inside.longest c.self.invariant c.if-self.true)

pub returns-else-self : goal.returns-else-self
returns-else-self c =
    rw (← c.self.view_is)
    (part_known c.self.inside.text.now c.self.inside.longest c.self.invariant c.if-self.false)
