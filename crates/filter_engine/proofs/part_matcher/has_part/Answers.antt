use Rattle.std.proofs.Common.{◌+◌, arith, below_more, true≢false, sym, refl, ◌∙◌}
use Rattle.std.proofs.lemmas.List.{take_rest}
use Rattle.filter_engine.proofs.Parts.{standing_part, none_left, none_until, none_fits}
use Rattle.filter_engine.proofs.part_matcher.has_part.Goals as goal

pub returns-in_default : goal.returns-in_default
returns-in_default c = (
  λ no. absurd (true≢false (sym no)),
  λ part. absurd
      (none_left c.args.name.now c.args.text.now c.args.index c.loop-start.start c.requires c.loop-start.invariant.none
      (rw take_rest at c.in_default.ensures) part),
)

pub returns-then-start-last : goal.returns-then-start-last
returns-then-start-last c =
    let none = none_until c.args.name.now c.args.text.now c.args.index c.loop-start.start c.in-Some.ahead c.requires
    c.loop-start.invariant.none (rw take_rest at c.in-Some.ensures) in (
      λ no. absurd (true≢false (sym no)),
      λ part. absurd
          (none_fits c.args.name.now c.args.text.now (c.loop-start.start + c.in-Some.ahead) none (omega arith) part),
    )

pub returns-then-stands_at : goal.returns-then-stands_at
returns-then-stands_at c = (
  λ _. standing_part c.args.name.now c.args.text.now (c.loop-start.start + c.in-Some.ahead)
      (c.stands_at.ensures.0 c.if-stands_at.true),
  λ _. refl,
)

pub loop-start-preserved : goal.loop-start-preserved
loop-start-preserved c =
    let none = none_until c.args.name.now c.args.text.now c.args.index c.loop-start.start c.in-Some.ahead c.requires
    c.loop-start.invariant.none (rw take_rest at c.in-Some.ensures) in
    record {
      none = below_more _ _ none
          (λ occurs. true≢false (sym (c.stands_at.ensures.1 occurs) ∙ c.if-stands_at.false));
      last = omega arith;
    }

pub returns : goal.returns
returns c = (
  λ no. absurd (true≢false (sym no)),
  λ part. absurd
      (let last = c.loop-start.invariant.last in
      none_fits c.args.name.now c.args.text.now c.loop-start.start c.loop-start.invariant.none (omega arith) part),
)
