use Rattle.std.proofs.Common.{filter, subst}
use Rattle.std.proofs.lemmas.Iterator.Adapters.{YieldsList-from_vec}
use Rattle.std.proofs.lemmas.Iterator.Consumers.{YieldsList-end}
use Rattle.std.specs.List.{AllZip}
use Rattle.rinqebo_changes.specs.Sides.RunRows.{is_of_run, IsEntryRow}
use Rattle.rinqebo_changes.proofs.sides.RunRows.{all_yielded, entries_more}
use Rattle.rinqebo_changes.proofs.sides.rows.entry_rows.Goals as goal

pub loop-entry-preserved : goal.loop-entry-preserved
loop-entry-preserved c =
    entries_more c.loop-entry.yielded c.in-Some.entry _ _ c.loop-entry.invariant c.in_ok-add_entry.ensures

pub returns : goal.returns
returns c =
    let whole = YieldsList-end (YieldsList-from_vec {s = c.into_iter-entry-iterator.result} c.args.entries.items (cc) (cc)) c.loop-entry.yielded
    c.loop-entry.entry-iterator c.loop-entry.yielded_by c.next.result c.next.new.self c.in-None.is c.next.ensures.steps in
    subst (λ es. AllZip IsEntryRow (filter is_of_run es) c.loop-entry.rows.items)
    (all_yielded c.loop-entry.yielded c.args.entries.items whole.0) c.loop-entry.invariant
