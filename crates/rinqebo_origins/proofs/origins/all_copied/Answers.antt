use Rattle.std.proofs.Common.{subst}
use Rattle.std.proofs.lemmas.List.{take_all}
use Rattle.std.specs.List.{AllZip}
use Rattle.rinqebo_origins.specs.KnownOrigins.{IsCopyOf}
use Rattle.rinqebo_origins.proofs.RowsMore.{zip_more}
use Rattle.rinqebo_origins.proofs.origins.all_copied.Goals as goal

pub loop-origin-preserved : goal.loop-origin-preserved
loop-origin-preserved c =
    zip_more IsCopyOf c.args.origins.now c.loop-origin.origin-index _ _ c.loop-origin-test.true c.origin-item.is _ _ _
    c.loop-origin.invariant c.in_ok-copied.ensures c.in_ok-push.ensures.items

pub returns : goal.returns
returns c =
    subst (λ os. AllZip IsCopyOf os c.loop-origin.copies.items)
    (take_all c.loop-origin.origin-index c.args.origins.now c.loop-origin-test.false) c.loop-origin.invariant
