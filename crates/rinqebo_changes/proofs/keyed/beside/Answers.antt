use Rattle.std.proofs.Common.{◌+◌, [], sym, subst, take}
use Rattle.rinqebo_changes.specs.Keyed.{AreBeside, IsTaken}
use Rattle.rinqebo_changes.proofs.KeyedRows.{beside_more, beside_none}
use Rattle.rinqebo_changes.proofs.keyed.beside.Goals as goal

pub loop-row-init : goal.loop-row-init
loop-row-init c =
    let rest = c.args.rest.now.items in
    subst (λ right. AreBeside rest [] right rest) (sym c.new-right.ensures.items) (beside_none rest)

pub loop-row-preserved : goal.loop-row-preserved
loop-row-preserved c =
    let from = c.args.from.now in
    let i = c.loop-row.row-index in
    let old = c.loop-row.rest.items in
    let new = c.taken.new.rows.items in
    let given = c.in_ok-taken.field-0 in
    subst (λ right. AreBeside c.args.rest.now.items (take (i + 1) from) right new) (sym c.in_ok-push.ensures.items)
    (beside_more c.args.rest.now.items from c.loop-row.right.items old new i c.row-item.result given c.loop-row-test.true
    c.row-item.is c.loop-row.invariant (subst (λ k. IsTaken k old given new) c.as_str.ensures.value c.in_ok-taken.ensures))
