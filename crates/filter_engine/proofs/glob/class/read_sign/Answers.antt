use Rattle.std.proofs.Common.{refl, sym, ◌∙◌, true≢false}
use Rattle.filter_engine.proofs.GlobBodies.{signed, sign_room}
use Rattle.filter_engine.proofs.glob.class.read_sign.Goals as goal

pub returns-then-is_negated-clause-sign : goal.returns-then-is_negated-clause-sign
returns-then-is_negated-clause-sign c = signed c.args.text.now (c.is_negated.ensures.0 c.if-is_negated.true)

pub returns-then-is_negated-clause-len : goal.returns-then-is_negated-clause-len
returns-then-is_negated-clause-len c = sign_room c.args.text.now (c.is_negated.ensures.0 c.if-is_negated.true)

pub returns-else-is_negated-clause-sign : goal.returns-else-is_negated-clause-sign
returns-else-is_negated-clause-sign c = (refl, λ w. true≢false (sym (c.is_negated.ensures.1 w) ∙ c.if-is_negated.false))
