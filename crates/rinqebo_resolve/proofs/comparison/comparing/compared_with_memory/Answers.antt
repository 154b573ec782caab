use Rattle.rinqebo_forms.specs.Runs.{run_view}
use Rattle.rinqebo_resolve.specs.Comparison.Comparisons.{IsUnderstood}
use Rattle.rinqebo_resolve.proofs.comparison.Endings.{understood, unread}
use Rattle.rinqebo_diff.specs.declared.loaded.SideName.TheVariants as names
use Rattle.rinqebo_resolve.proofs.comparison.comparing.compared_with_memory.Goals as goal

pub returns-in-Ended : goal.returns-in-Ended
returns-in-Ended c =
    unread c.args.from.now c.args.to.now c.args.with_origins names.From c.args.from.now c.in-Ended.ending
    (rw c.in-Ended.is at c.in_ok-left.ensures) (λ Holds is. is)

pub returns-in-Ended-right : goal.returns-in-Ended-right
returns-in-Ended-right c =
    let left : IsUnderstood c.args.from.now =
    (run_view c.in-Run.left_run, rw c.in-Run.is at c.in_ok-left.ensures) in
    unread c.args.from.now c.args.to.now c.args.with_origins names.To c.args.to.now c.in-Ended-right.ending
    (rw c.in-Ended-right.is at c.in_ok-right.ensures) (λ Holds is. (left, is))

pub returns-in-Run-right : goal.returns-in-Run-right
returns-in-Run-right c =
    understood c.args.from.now c.args.to.now c.args.with_origins (run_view c.in-Run.left_run)
    (run_view c.in-Run-right.right_run) c.ended_of.result (rw c.in-Run.is at c.in_ok-left.ensures)
    (rw c.in-Run-right.is at c.in_ok-right.ensures) c.ended_of.ensures
