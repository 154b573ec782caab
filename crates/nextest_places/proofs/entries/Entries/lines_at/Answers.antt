use Rattle.std.proofs.Common.{◌≡◌}
use Rattle.nextest_places.specs.Branches.{lines_by_number}
use Rattle.nextest_places.specs.Entries.{scan, waits}
use Rattle.nextest_places.specs.Marks.{fresh}
use Rattle.nextest_places.proofs.Found.{lines_are}
use Rattle.nextest_places.proofs.entries.Entries.lines_at.Goals as goal

pub returns : goal.returns
returns c =
    let entries = c.args.self.now in
    let is : c.lines_of.result ≡ lines_by_number entries c.number_at.result =
    rw (c.deref.ensures.value, c.self.view_is) at c.lines_of.ensures in
    rw is (lines_are entries (scan entries (waits (fresh c.args.path.now))) c.number_at.result c.number_at.ensures)
