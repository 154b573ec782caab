use Rattle.std.proofs.Common.{◌+◌, take, sym, subst}
use Rattle.std.proofs.lemmas.List.Elements.{all_zip_more}
use Rattle.std.specs.List.{AllZip}
use Rattle.rinqebo_changes.specs.Keyed.{IsAbsent, IsAbsentFor}
use Rattle.rinqebo_changes.proofs.keyed.absent_rows.Goals as goal

pub loop-row-preserved : goal.loop-row-preserved
loop-row-preserved c =
    let rows = c.args.rows.now in
    let i = c.loop-row.row-index in
    let made = c.in_ok-absent.field-0 in
    subst (AllZip IsAbsentFor (take (i + 1) rows)) (sym c.in_ok-push.ensures.items)
    (all_zip_more IsAbsentFor rows c.loop-row.made.items i c.row-item.result made c.loop-row-test.true c.row-item.is
    c.loop-row.invariant (subst (λ k. IsAbsent k made) c.as_str.ensures.value c.in_ok-absent.ensures))
