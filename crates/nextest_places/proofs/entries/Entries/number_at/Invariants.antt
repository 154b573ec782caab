use Rattle.std.proofs.Common.{drop, take}
use Rattle.nextest_places.proofs.Branched.{IsPassed}
use Rattle.nextest_places.proofs.entries.Entries.number_at.Given as goal

abbrev pub invariant-loop-at : goal.invariant-loop-at
invariant-loop-at l = IsPassed l.self l.path (take l.at l.path) (drop l.at l.path) l.branch l.from l.pair
