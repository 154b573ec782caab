use Rattle.std.proofs.Common.{codes}
use Rattle.rinqebo_report.proofs.Joined.{joined_more}
use Rattle.rinqebo_report.specs.OriginText.{origin_text}
use Rattle.rinqebo_report.proofs.origin_text.add_origins.Goals as goal

pub loop-origin-preserved : goal.loop-origin-preserved
loop-origin-preserved c =
    joined_more (codes ", ") (origin_text c.args.root.now c.args.sources.now) c.args.origins.now
    c.loop-origin.origin-index c.origin-item.result c.loop-origin-test.true c.origin-item.is _ _ _ _
    c.loop-origin.separator.now c.loop-origin.invariant c.in_ok-push_str.ensures.bytes c.in_ok-add_origin.ensures
