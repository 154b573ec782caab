use Rattle.std.proofs.Common.{◌∙◌, sym}
use Rattle.nextest_places.proofs.Aiming.{at_no_part, at_other, at_part, at_position}
use Rattle.nextest_places.proofs.entry.aim_of.Goals as goal

pub returns-in-Some-2 : goal.returns-in-Some-2
returns-in-Some-2 c =
    let other = rw c.as_str.ensures.value at (sym c.eq.ensures ∙ c.if-eq.false) in
    sym (at_other c.args.kind c.args.parts.now c.loop-at.at c.args.path.now _ c.loop-at-test.true c.in-Key.key
    c.in-Some.part.now c.in-Key.is c.in-Some.ensures.lookup.3.0 c.in-Some.ensures.lookup.1 other)
    ∙ c.loop-at.invariant

pub returns-in-None : goal.returns-in-None
returns-in-None c =
    c.at_key.ensures
    ∙ sym (at_no_part c.args.kind c.args.parts.now c.loop-at.at c.args.path.now _ c.loop-at-test.true c.in-Key.key
    c.in-Key.is c.in-None.ensures.lookup.3)
    ∙ c.loop-at.invariant

pub returns-in-Position : goal.returns-in-Position
returns-in-Position c =
    sym (at_position c.args.kind c.args.parts.now c.loop-at.at c.args.path.now _ c.loop-at-test.true
    c.in-Position.field-0 c.in-Position.is)
    ∙ c.loop-at.invariant

pub loop-at-preserved : goal.loop-at-preserved
loop-at-preserved c =
    let same = rw c.as_str.ensures.value at (sym c.eq.ensures ∙ c.if-eq.true) in
    at_part c.args.kind c.args.parts.now c.loop-at.at c.args.path.now _ c.loop-at-test.true c.in-Key.key
    c.in-Some.part.now c.in-Key.is c.in-Some.ensures.lookup.3.0 c.in-Some.ensures.lookup.1 same
    ∙ c.loop-at.invariant
