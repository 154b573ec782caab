use Rattle.std.proofs.Common.{◌≡◌, [], ◌∷◌, ◌++◌, ap, replicate, ◌∙◌}
use Rattle.filter_engine.specs.Tables.{lists_of}
use Rattle.filter_engine.specs.declared.machine.table.Cell.TheVariants.{Unknown}
use Rattle.filter_engine.proofs.Tables.{new_table}
use Rattle.filter_engine.proofs.machine.table.Table.new.Goals as goal

pub returns-clause-table : goal.returns-clause-table
returns-clause-table c =
    let none : c.in_ok-cells.cells.items ≡ replicate 256 Unknown =
    c.in_ok-cells.ensures.items_if_clones_equal (λ y same. same) in
    let one : lists_of c.push.new.self.items ≡ [] ∷ [] =
    ap lists_of c.in_ok-push.ensures.items ∙ ap (λ rows. lists_of (rows ++ c.new.result ∷ [])) c.new-rows.ensures.items
    ∙ ap (λ states. states ∷ []) c.new.ensures.items in
    λ nfa. new_table nfa c.args.classes c.args.width (lists_of c.push.new.self.items) c.in_ok-cells.cells.items 256 one none
