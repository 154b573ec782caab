use Rattle.std.proofs.Common.{subst, sym}
use Rattle.std.proofs.lemmas.Iterator.Adapters.{YieldsList-from_vec}
use Rattle.std.proofs.lemmas.Iterator.Consumers.{YieldsList-end}
use Rattle.std.proofs.lemmas.Slice.Zip.{all_zipped_more}
use Rattle.std.specs.List.{AllZip}
use Rattle.rinqebo_changes.specs.Sides.RunRows.{IsWrapperRow}
use Rattle.rinqebo_changes.proofs.sides.RunRows.{all_yielded}
use Rattle.rinqebo_changes.proofs.sides.rows.wrapper_rows.Goals as goal

pub loop-wrapper-preserved : goal.loop-wrapper-preserved
loop-wrapper-preserved c =
    subst (AllZip IsWrapperRow _) (sym c.in_ok-push.ensures.items)
    (all_zipped_more IsWrapperRow c.loop-wrapper.yielded c.loop-wrapper.rows.items c.in-Some.wrapper
    c.in_ok-wrapper_row.field-0 c.loop-wrapper.invariant c.in_ok-wrapper_row.ensures)

pub returns : goal.returns
returns c =
    let whole = YieldsList-end (YieldsList-from_vec {s = c.into_iter-wrapper-iterator.result} c.args.wrappers.items (cc) (cc)) c.loop-wrapper.yielded
    c.loop-wrapper.wrapper-iterator c.loop-wrapper.yielded_by c.next.result c.next.new.self c.in-None.is c.next.ensures.steps in
    subst (λ ws. AllZip IsWrapperRow ws c.loop-wrapper.rows.items)
    (all_yielded c.loop-wrapper.yielded c.args.wrappers.items whole.0) c.loop-wrapper.invariant
