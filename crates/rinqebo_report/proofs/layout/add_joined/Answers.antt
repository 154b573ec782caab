use Rattle.std.proofs.Common.{codes, string_bytes}
use Rattle.rinqebo_report.proofs.Joined.{joined_more}
use Rattle.rinqebo_report.proofs.layout.add_joined.Goals as goal

pub loop-text-preserved : goal.loop-text-preserved
loop-text-preserved c =
    joined_more (codes ", ") string_bytes c.args.texts.now c.loop-text.text-index c.text-item.result
    c.loop-text-test.true c.text-item.is _ _ _ _ c.loop-text.separator.now c.loop-text.invariant
    c.in_ok-push_str.ensures.bytes (rw c.as_str.ensures.value at c.in_ok-push_str-2.ensures.bytes)
