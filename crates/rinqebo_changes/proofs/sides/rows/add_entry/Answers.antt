use Rattle.std.proofs.Common.{◌∙◌, ap, sym}
use Rattle.rinqebo_changes.specs.Sides.RunRows.{is_of_tests}
use Rattle.rinqebo_changes.proofs.sides.RunRows.{entry_added, entry_left}
use Rattle.rinqebo_changes.proofs.sides.rows.add_entry.Goals as goal

pub returns-then-branch : goal.returns-then-branch
returns-then-branch c =
    entry_left c.args.entry c.args.rows.now.items
    (sym (c.in_ok-is_of_tests.ensures ∙ ap is_of_tests c.as_str.ensures.value) ∙ c.if-branch.true)

pub returns : goal.returns
returns c =
    entry_added c.args.entry c.args.rows.now.items _ c.in_ok-entry_row.field-0
    (sym (c.in_ok-is_of_tests.ensures ∙ ap is_of_tests c.as_str.ensures.value) ∙ c.if-branch.false)
    c.in_ok-entry_row.ensures c.in_ok-push.ensures.items
