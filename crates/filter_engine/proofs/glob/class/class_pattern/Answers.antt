use Rattle.regex_hir.proofs.MeaningLemmas.{meaning-Bytes}
use Rattle.filter_engine.proofs.GlobPatterns.{ranges_mean, others_mean}
use Rattle.filter_engine.proofs.glob.class.class_pattern.Goals as goal

pub returns-then-negated : goal.returns-then-negated
returns-then-negated c =
    rw (c.if-negated.true, meaning-Bytes c.in_ok-negate.field-0)
    (others_mean c.in_ok-negate.field-0.ranges.items c.in_ok-class.class.ranges.items c.args.ranges.items
    c.in_ok-class.ensures c.in_ok-negate.ensures)

pub returns : goal.returns
returns c =
    rw (c.if-negated.false, meaning-Bytes c.in_ok-class.class)
    (ranges_mean c.in_ok-class.class.ranges.items c.args.ranges.items c.in_ok-class.ensures)
