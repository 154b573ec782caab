use Rattle.std.proofs.Common.{◌≡◌, ◌<◌, take, All, MatchOption}
use Rattle.rinqebo_report.specs.Hints.{distance, reach, IsNearest}
use Rattle.rinqebo_report.proofs.hint.nearest_name.Given as goal

abbrev pub invariant-loop-other : goal.invariant-loop-other
invariant-loop-other l =
    MatchOption l.nearest
    (All (λ other. reach l.name < distance l.name other.now) (take l.other-index l.known))
    (λ candidate. (candidate.distance ≡ distance l.name candidate.name.now)
    × IsNearest l.name (take l.other-index l.known) candidate.name.now)
