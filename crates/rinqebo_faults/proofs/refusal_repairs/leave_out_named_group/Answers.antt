use Rattle.std.proofs.Common.{◌≡◌, subst}
use Rattle.std.specs.Prelude.{OnOk}
use Rattle.rinqebo_faults.specs.Edits.{EditsView, edits_view, omit_group, with_edit}
use Rattle.rinqebo_faults.proofs.refusal_repairs.leave_out_named_group.Goals as goal

pub returns : goal.returns
returns c =
    subst
    (λ (v : EditsView). OnOk c.omit_group.result
    (edits_view c.omit_group.new.self ≡ with_edit v (omit_group c.args.name.now)))
    c.in_ok-remove.ensures c.omit_group.ensures
