use Rattle.std.proofs.Common.{◌≡◌, ◌+◌, ◌-◌, suc, map, ap, ◌∙◌, arith}
use Rattle.std.specs.List.{range_with_len}
use Rattle.rinqebo_faults.specs.Edits.{edits_view, mark_of, remove, with_edit, with_edits}
use Rattle.rinqebo_faults.specs.Repairs.{left_out_in}
use Rattle.rinqebo_faults.proofs.refusal_repairs.leave_out_parent.Goals as goal

pub loop-place-preserved : goal.loop-place-preserved
loop-place-preserved c =
    let l = c.loop-place in
    let profile = c.args.profile.now in
    let left : c.args.sources - l.place ≡ suc (c.args.sources - (l.place + 1)) = omega arith in
    let here : edits_view c.remove.new.self ≡ with_edit (edits_view l.edits) (left_out_in profile l.place) =
    c.in_ok-remove.ensures
    ∙ ap (λ path. with_edit (edits_view l.edits) (remove (mark_of l.place path))) c.parent_path.ensures in
    ap (λ v. with_edits v (map (left_out_in profile) (range_with_len (l.place + 1) (c.args.sources - (l.place + 1))))) here
    ∙ (rw left at l.invariant)
