use Rattle.std.proofs.Common.{subst, OnOk}
use Rattle.nextest_tree.specs.Schema.{names_of}
use Rattle.nextest_tree.specs.View.{entries_view}
use Rattle.nextest_shape.specs.Faults.Found.{Adds, path_text}
use Rattle.nextest_shape.specs.Faults.Places.{fields_view}
use Rattle.nextest_shape.proofs.faults.Adding.{adds_none}
use Rattle.nextest_shape.proofs.faults.UnknownKeys.{noted}
use Rattle.nextest_shape.proofs.faults.unknown.add_noted.Goals as goal

pub returns-in-Noted : goal.returns-in-Noted
returns-in-Noted c =
    let new = c.add_unknown.new.found.items in
    rw c.in-Noted.is
    (subst (λ fs. OnOk c.add_unknown.result (Adds c.args.found.now.items new fs))
    (noted (names_of (fields_view c.args.fields.now)) (path_text c.args.path.now) (entries_view c.args.members.now.entries))
    c.add_unknown.ensures)

pub returns-in-Refused : goal.returns-in-Refused
returns-in-Refused c = rw c.in-Refused.is (adds_none c.args.found.now.items)
