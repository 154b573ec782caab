use Rattle.std.proofs.Common.{◌≡◌, arith, sym, ap, ◌∙◌, get_or}
use Rattle.filter_engine.specs.Tables.{byte_cell}
use Rattle.filter_engine.specs.declared.machine.table.Cell.TheVariants.{Next}
use Rattle.std.proofs.lemmas.Option.{slice_get-get_or}
use Rattle.filter_engine.proofs.Follows.{at_first, at_next, byte_found, byte_not_found, end_has_none, end_is_found, end_is_next, first_row, next_row, next_searched, walk_at, walk_from}
use Rattle.filter_engine.proofs.machine.Machine.follow.Goals as goal

pub loop-at-init : goal.loop-at-init
loop-at-init c = record {
  row = c.args.table.now.some;
  here = at_first c.args.name.now;
  searched = first_row c.args.self.now.nfa c.args.table.now c.args.name.now c.requires;
}

pub returns-in-Found : goal.returns-in-Found
returns-in-Found c =
    let so_far = c.loop-at.invariant in
    sym (byte_found c.args.self.now.nfa c.args.table.now c.requires c.args.name.now c.loop-at.at c.loop-at.row
    so_far.row so_far.here so_far.searched _ (slice_get-get_or c.args.name.now c.loop-at.at 0 (omega arith))
    c.in-Found.ensures)

pub returns-in-NotFound : goal.returns-in-NotFound
returns-in-NotFound c =
    let so_far = c.loop-at.invariant in
    sym (byte_not_found c.args.self.now.nfa c.args.table.now c.requires c.args.name.now c.loop-at.at c.loop-at.row
    so_far.row so_far.here so_far.searched _ (slice_get-get_or c.args.name.now c.loop-at.at 0 (omega arith))
    c.in-NotFound.ensures)

pub loop-at-preserved : goal.loop-at-preserved
loop-at-preserved c =
    let so_far = c.loop-at.invariant in
    let comes = slice_get-get_or c.args.name.now c.loop-at.at 0 (omega arith) in
    let next : Next c.from-row.result ≡ byte_cell c.args.table.now c.loop-at.row (get_or c.args.name.now c.loop-at.at 0) =
    ap Next c.from-row.ensures ∙ c.in-Next.ensures in
    let row = next_row c.args.self.now.nfa c.args.table.now c.requires c.args.name.now c.loop-at.at c.loop-at.row
    so_far.row so_far.here so_far.searched _ c.from-row.result comes next in
    record {
      row = row.1;
      here = at_next c.from-row.result c.args.name.now c.loop-at.at row.0 (omega arith);
      searched = next_searched c.args.self.now.nfa c.args.table.now c.requires c.args.name.now c.loop-at.at
          c.loop-at.row so_far.row so_far.here so_far.searched _ c.from-row.result comes next;
    }

pub walk-requires : goal.walk-requires
walk-requires c =
    let so_far = c.loop-at.invariant in
    record {
      from = omega arith;
      searched = walk_from c.args.self.now.nfa c.args.table.now c.requires c.args.name.now c.loop-at.at c.loop-at.row
          so_far.row so_far.here so_far.searched _ c.states.ensures;
    }

pub returns-in-Found-at_end : goal.returns-in-Found-at_end
returns-in-Found-at_end c =
    let so_far = c.loop-at.invariant in
    sym (end_is_found c.args.self.now.nfa c.args.table.now c.requires c.args.name.now c.loop-at.at c.loop-at.row
    so_far.row so_far.here so_far.searched (omega arith) c.in-Found-at_end.ensures)

pub returns-in-Next-at_end : goal.returns-in-Next-at_end
returns-in-Next-at_end c =
    let so_far = c.loop-at.invariant in
    sym (end_is_next c.args.self.now.nfa c.args.table.now c.requires c.args.name.now c.loop-at.at c.loop-at.row
    so_far.row so_far.here so_far.searched _ (omega arith) c.in-Next-at_end.ensures)

pub returns-in-NotFound-at_end : goal.returns-in-NotFound-at_end
returns-in-NotFound-at_end c =
    let so_far = c.loop-at.invariant in
    sym (end_has_none c.args.self.now.nfa c.args.table.now c.requires c.args.name.now c.loop-at.at c.loop-at.row
    so_far.row so_far.here so_far.searched (omega arith) c.in-NotFound-at_end.ensures)

pub walk-requires-in-Unknown-at_end : goal.walk-requires-in-Unknown-at_end
walk-requires-in-Unknown-at_end c =
    let so_far = c.loop-at.invariant in
    record {
      from = omega arith;
      searched = walk_at c.args.self.now.nfa c.args.table.now c.requires c.args.name.now c.loop-at.at c.loop-at.row
          so_far.row so_far.here so_far.searched _ _ (omega arith) c.states-in-Unknown-at_end.ensures;
    }
