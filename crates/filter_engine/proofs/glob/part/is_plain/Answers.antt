use Rattle.std.proofs.Common.{◌≡◌, arith, rules, false}
use Rattle.std.proofs.lemmas.List.Elements.{All-from_get_or}
use Rattle.filter_engine.specs.Globs.{is_special}
use Rattle.filter_engine.proofs.glob.part.is_plain.Goals as goal

pub returns : goal.returns
returns c = (
  λ _. All-from_get_or (λ byte. is_special byte ≡ false) c.args.text.now 0
      (λ k below. c.loop-byte.invariant k (omega arith)),
  λ _. search rules,
)
