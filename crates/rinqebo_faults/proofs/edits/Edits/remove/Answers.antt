use Rattle.rinqebo_faults.specs.Edits.{edits_view, with_edit}
use Rattle.rinqebo_faults.proofs.MarkSets.{one_more}
use Rattle.rinqebo_faults.proofs.edits.Edits.remove.Goals as goal

pub returns : goal.returns
unfolding edits_view with_edit
returns c =
    let each = one_more c.args.self.now.removed c.insert.new.self c.in_ok-mark.mark _
    c.in_ok-mark.ensures c.in_ok-insert.ensures.updates in
    λ i. record (edits_view c.args.self.now) { removed = λ other. each other i }
