use Rattle.std.proofs.Common.{arith, ap, length, refl}
use Rattle.filter_engine.proofs.Parts.{empty_part}
use Rattle.filter_engine.proofs.part_matcher.PartMatcher.has_match.Goals as goal

pub returns-then-text-eq0 : goal.returns-then-text-eq0
returns-then-text-eq0 c = (
  λ _. empty_part c.args.name.now c.args.self.now
      (omega (arith, ap length c.as_bytes-text.ensures.value, ap length c.self.view_is)),
  λ _. refl,
)
