use Rattle.std.proofs.Common.{codes}
use Rattle.rinqebo_report.proofs.Joined.{joined_more}
use Rattle.rinqebo_report.specs.TomlText.{item_text}
use Rattle.rinqebo_report.proofs.toml_text.add_items.Goals as goal

pub loop-item-preserved : goal.loop-item-preserved
loop-item-preserved c =
    joined_more (codes ", ") item_text c.args.items.now c.loop-item.item-index c.item-item.result
    c.loop-item-test.true c.item-item.is _ _ _ _ c.loop-item.separator.now c.loop-item.invariant
    c.in_ok-push_str.ensures.bytes (rw c.as_str.ensures.value at c.in_ok-add_quoted.ensures)
