use Rattle.std.proofs.Common.{◌≡◌, ℕ, ◌<◌, length, get_or, false}
use denote.Ref.{Bor}
use Rattle.nextest_inheritance.specs.Names.{Name, precedes}
use Rattle.nextest_inheritance.proofs.cycles.place_of_least.Given as goal

abbrev pub invariant-loop-place : goal.invariant-loop-place
invariant-loop-place l = record {
  within : 0 < length l.names → l.least < length l.names;
  least : (place : ℕ) (d : Bor Name) → place < l.place
      → precedes (get_or l.names place d).now (get_or l.names l.least d).now ≡ false;
}
