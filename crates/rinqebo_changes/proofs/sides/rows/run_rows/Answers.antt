use Rattle.std.proofs.Common.{◌∙◌, ◌++◌, ap}
use Rattle.rinqebo_changes.proofs.sides.rows.run_rows.Goals as goal

pub returns : goal.returns
returns c = record {
  leaves = c.in_ok-rows.rows.items;
  are_leaves = c.in_ok-rows.ensures;
  setup = c.in_ok-setup_row.field-0;
  is_setup = c.in_ok-setup_row.ensures;
  wrappers = c.in_ok-wrappers.wrappers.items;
  are_wrappers = c.in_ok-wrappers.ensures;
  are_rows = c.in_ok-append.ensures.items ∙ ap (λ xs. xs ++ c.in_ok-wrappers.wrappers.items) c.in_ok-push.ensures.items;
}
