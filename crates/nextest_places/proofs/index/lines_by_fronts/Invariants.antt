use Rattle.std.proofs.Common.{◌≡◌, drop}
use Rattle.nextest_places.specs.Index.{first_with}
use Rattle.nextest_places.proofs.index.lines_by_fronts.Given as goal

abbrev pub invariant-loop-front : goal.invariant-loop-front
invariant-loop-front l = first_with l.path (drop l.front-index l.fronts) ≡ first_with l.path l.fronts
