use Rattle.rinqebo_resolve.proofs.comparison.Endings.{ends_in}
use Rattle.rinqebo_resolve.proofs.comparison.comparing.ended_in.Goals as goal

pub returns : goal.returns
returns c =
    ends_in _ _ c.args.with_origins c.args.from_files.now c.args.to_files.now c.in_ok-request.request c.ended.result
    c.in_ok-request.ensures c.ended.ensures
