use Rattle.std.proofs.Common.{◌≡◌, [], ◌∷◌, ◌++◌, arith, length, refl, ap, sym, ◌∙◌, subst}
use Rattle.std.proofs.lemmas.List.{length_push}
use Rattle.std.specs.Cmp.Lexicographic.{bytes_decides}
use Rattle.filter_engine.specs.Tables.{IsTable, lists_of, states_of}
use Rattle.filter_engine.proofs.Tables.{row_added, row_kept, row_pushed}
use Rattle.filter_engine.proofs.Follows.{row_is, rows_count, rows_more}
use Rattle.filter_engine.proofs.machine.table.Table.row_of.Goals as goal

pub returns-then-eq-clause-leads : goal.returns-then-eq-clause-leads
returns-then-eq-clause-leads c =
    let same = (bytes_decides c.as_slice.result.now c.args.states.now).0 (sym c.eq.ensures ∙ c.if-eq.true) in
    λ nfa. (
      omega arith,
      omega (arith, rows_count c.args.self.now),
      row_is c.args.self.now c.loop-row.row c.index.result.now (omega arith) c.index.ensures
          ∙ (sym c.as_slice.ensures.value ∙ same),
    )

pub returns-clause-table : goal.returns-clause-table
returns-clause-table c =
    let table = c.args.self.now in
    let more : lists_of c.push.new.self.items ≡ lists_of table.rows.items ++ c.args.states.now ∷ [] =
    rows_more table.rows.items c.push.new.self.items c.in_ok-states.states c.args.states.now c.in_ok-push.ensures.items
    c.in_ok-states.ensures.items in
    λ nfa is within.
    subst (λ rows. IsTable nfa table.classes table.width rows table.cells.items) (sym more)
    (row_added nfa table.classes table.width (lists_of table.rows.items) table.cells.items c.args.states.now is
    (omega (arith, rows_count table, table.some)) within)

pub returns-clause-grows : goal.returns-clause-grows
returns-clause-grows c =
    let table = c.args.self.now in
    let more : lists_of c.push.new.self.items ≡ lists_of table.rows.items ++ c.args.states.now ∷ [] =
    rows_more table.rows.items c.push.new.self.items c.in_ok-states.states c.args.states.now c.in_ok-push.ensures.items
    c.in_ok-states.ensures.items in
    record {
      classes = refl;
      width = refl;
      longer = omega (arith, ap length more, length_push (lists_of table.rows.items) c.args.states.now);
      same = λ row below.
          ap (λ rows. states_of rows row) more ∙ row_kept (lists_of table.rows.items) c.args.states.now row below;
    }

pub returns-clause-leads : goal.returns-clause-leads
returns-clause-leads c =
    let table = c.args.self.now in
    let states = c.args.states.now in
    let more : lists_of c.push.new.self.items ≡ lists_of table.rows.items ++ states ∷ [] =
    rows_more table.rows.items c.push.new.self.items c.in_ok-states.states states c.in_ok-push.ensures.items
    c.in_ok-states.ensures.items in
    let last : c.len-count.result ≡ length (lists_of table.rows.items) = omega (arith, rows_count table) in
    λ nfa. (
      omega (arith, table.some),
      omega (arith, ap length more, length_push (lists_of table.rows.items) states),
      ap (λ rows. states_of rows c.len-count.result) more
          ∙ ap (states_of (lists_of table.rows.items ++ states ∷ [])) last ∙ row_pushed (lists_of table.rows.items) states,
    )
