use Rattle.std.proofs.Common.{◌<◌, length, arith, rules, refl, ◌∙◌}
use Rattle.filter_engine.specs.Tables.{IsTableOf, Grows, lists_of}
use Rattle.filter_engine.proofs.Follows.{classes_still, row_within, rows_count}
use Rattle.filter_engine.proofs.Rows.{cell_filled, end_filled, row_within_states}
use Rattle.filter_engine.proofs.Tables.{grows_none, grows_on}
use Rattle.filter_engine.proofs.machine.search.Search.fill.Goals as goal

pub end_cell-end-requires : goal.end_cell-end-requires
end_cell-end-requires g c =
    let within = row_within_states c.args.self.now.nfa.now c.args.table.now c.args.row _ c.requires.table c.states.ensures in
    (search rules, (c.requires.looks, within))

pub start-requires : goal.start-requires
start-requires g c =
    let nfa = c.args.self.now.nfa.now in
    let table : IsTableOf nfa c.set.new.self =
    c.set.ensures.table nfa c.requires.table (end_filled nfa c.args.table.now c.args.row _ c.args.bytes.now _ _
    c.requires.classes refl c.states.ensures c.end_cell-end.ensures) in
    let within = row_within_states nfa c.set.new.self c.args.row _ table c.states-2.ensures in
    (search rules, (search rules, (within, c.new-states.ensures)))

pub returns-then-len-gt-MOST_READ-clause-table : goal.returns-then-len-gt-MOST_READ-clause-table
returns-then-len-gt-MOST_READ-clause-table g c =
    let nfa = c.args.self.now.nfa.now in
    c.set.ensures.table nfa c.requires.table (end_filled nfa c.args.table.now c.args.row _ c.args.bytes.now _ _
    c.requires.classes refl c.states.ensures c.end_cell-end.ensures)

pub loop-class-init : goal.loop-class-init
loop-class-init g c =
    let nfa = c.args.self.now.nfa.now in
    record {
      table = c.set.ensures.table nfa c.requires.table (end_filled nfa c.args.table.now c.args.row _
          c.args.bytes.now _ _ c.requires.classes refl c.states.ensures c.end_cell-end.ensures);
      grows = grows_none c.set.new.self;
    }

pub set-requires-in-loop-class : goal.set-requires-in-loop-class
set-requires-in-loop-class g c =
    let grows : Grows c.set.new.self c.next_cell.new.table =
    grows_on c.set.new.self c.loop-class.table c.next_cell.new.table c.loop-class.invariant.grows
    c.in_ok-cell.ensures.grows in
    let first = c.set.ensures.grows in
    record {
      row = row_within c.set.new.self c.next_cell.new.table c.args.row grows
          (row_within c.args.table.now c.set.new.self c.args.row first c.requires.row);
      class = omega (arith, grows.width, first.width);
    }

pub loop-class-preserved : goal.loop-class-preserved
loop-class-preserved g c =
    let nfa = c.args.self.now.nfa.now in
    let first = c.set.ensures.grows in
    let grows : Grows c.set.new.self c.next_cell.new.table =
    grows_on c.set.new.self c.loop-class.table c.next_cell.new.table c.loop-class.invariant.grows
    c.in_ok-cell.ensures.grows in
    let row : c.args.row < length (lists_of c.set.new.self.rows.items) =
    omega (arith, rows_count c.set.new.self, row_within c.args.table.now c.set.new.self c.args.row first c.requires.row) in
    let cell = cell_filled nfa c.requires.looks c.set.new.self c.next_cell.new.table c.args.row _ _
    c.before_byte-at.ensures.at c.before_byte-at.ensures.byte c.args.bytes.now
    (classes_still nfa c.args.table.now c.set.new.self c.args.bytes.now first c.requires.classes)
    (first.width ∙ c.requires.width) row grows _ c.start.new.list c.close-found.new.states c.close-found.result
    c.loop-class.class c.in_ok-cell.cell c.states-2.ensures c.start.ensures.starts c.close-found.ensures.closes
    (omega arith) c.in_ok-cell.ensures.cell in
    record {
      table = c.set-in-loop-class.ensures.table nfa c.in_ok-cell.ensures.table cell;
      grows = grows_on c.set.new.self c.next_cell.new.table c.set-in-loop-class.new.self grows
          c.set-in-loop-class.ensures.grows;
    }

pub returns-clause-grows : goal.returns-clause-grows
returns-clause-grows g c =
    grows_on c.args.table.now c.set.new.self c.loop-class.table c.set.ensures.grows c.loop-class.invariant.grows
