use Rattle.rinqebo_faults.specs.Edits.{edits_view, with_edit}
use Rattle.rinqebo_faults.proofs.MarkSets.{one_set}
use Rattle.rinqebo_faults.proofs.edits.Edits.replace.Goals as goal

pub returns : goal.returns
unfolding edits_view with_edit
returns c =
    let each = one_set (λ text. text.now) c.args.self.now.replaced c.insert.new.self c.in_ok-mark.mark _
    c.args.text c.in_ok-mark.ensures c.in_ok-insert.ensures.updates in
    λ i. record (edits_view c.args.self.now) { replaced = λ other. each other i }
