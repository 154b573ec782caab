use Rattle.rinqebo_resolve.proofs.comparison.Endings.{side_fails}
use Rattle.rinqebo_resolve.proofs.comparison.comparing.ended.Goals as goal

pub returns-in_ok-ending_of_failure-in-Err-Side : goal.returns-in_ok-ending_of_failure-in-Err-Side
returns-in_ok-ending_of_failure-in-Err-Side c =
    side_fails c.args.request.now c.args.from.now c.args.to.now _ _ _
    (rw c.in-Err-Side.field-0-is at c.in-Err-Side.ensures.err) c.in_ok-ending_of_failure-in-Err-Side.ensures
