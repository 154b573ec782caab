use Rattle.rinqebo_forms.specs.Runs.{run_view}
use Rattle.rinqebo_resolve.proofs.comparison.Endings.{ends_of}
use Rattle.rinqebo_resolve.proofs.comparison.comparing.ended_of.Goals as goal

pub returns : goal.returns
returns c =
    ends_of (run_view c.args.from) (run_view c.args.to) _ _ c.args.with_origins _ _ c.ended_in.result
    c.parted-from.ensures.asked c.parted-to.ensures.asked c.parted-from.ensures.files c.parted-to.ensures.files
    c.ended_in.ensures
