use Rattle.std.proofs.Common.{string_bytes, ap, ◌∙◌}
use Rattle.nextest_tree.specs.View.{tree_view}
use Rattle.nextest_scripts.specs.CommandLine.{line_cause}
use Rattle.nextest_shape.proofs.faults.Trees.{view-Text}
use Rattle.nextest_shape.proofs.faults.Words.{command_text}
use Rattle.nextest_shape.proofs.faults.values.line_cause.Goals as goal

pub returns-in_ok-element_cause-in-Text : goal.returns-in_ok-element_cause-in-Text
returns-in_ok-element_cause-in-Text c =
    let n = tree_view c.args.tree.now in
    let s = c.in-Text.field-0 in
    c.in_ok-element_cause-in-Text.ensures (line_cause n)
    (command_text n (string_bytes s) (ap tree_view c.in-Text.is ∙ view-Text s))
