use Rattle.std.proofs.Common.{◌+◌, ◌-◌, ◌≡◌, length}
use Rattle.filter_engine.proofs.Parts.{NoneBelow}
use Rattle.filter_engine.proofs.part_matcher.has_part.Given as goal

abbrev pub invariant-loop-start : goal.invariant-loop-start
invariant-loop-start l = record {
  none : NoneBelow l.name l.text l.start;
  last : l.last + length l.text ≡ length l.name;
}

abbrev pub decreases-loop-start : goal.decreases-loop-start
decreases-loop-start l = l.last + 1 - l.start
