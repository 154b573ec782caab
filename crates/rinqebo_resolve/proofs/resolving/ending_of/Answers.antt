use Rattle.rinqebo_forms.specs.Runs.{run_view}
use Rattle.rinqebo_resolve.proofs.Reporting.{ended_of}
use Rattle.rinqebo_resolve.proofs.resolving.ending_of.Goals as goal

pub returns : goal.returns
returns c =
    ended_of (run_view c.args.run) _ _ c.ending_in.result c.parted-asked.ensures.asked c.parted-asked.ensures.files
    c.ending_in.ensures
