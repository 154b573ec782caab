use Rattle.rinqebo_checks.specs.ReadAgain.{reading_view}
use Rattle.rinqebo_checks.specs.Rounds.{ReportSomeRounds}
use Rattle.rinqebo_checks.proofs.search.Search.rounds.Given as goal

-- the findings report the rounds so far
abbrev pub invariant-loop : goal.invariant-loop
invariant-loop l =
    ReportSomeRounds l.session (reading_view l.fn.self.reading) (reading_view l.self.reading) l.findings.items
