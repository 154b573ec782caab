use Rattle.std.proofs.Common.{◌≡◌, ◌∙◌, ap, get_or, rules}
use Rattle.platform_language.specs.Platforms.Platforms.{platform_view}
use Rattle.platform_language.proofs.Parts.{said, least_step, greatest_step, least_end, greatest_end}
use Rattle.platform_language.proofs.values.+expression_value.Goals as goal

pub greatest-loop-part-preserved : goal.greatest-loop-part-preserved
greatest-loop-part-preserved t c =
    let p = platform_view c.args.platform.now in
    let here : c.part-item.result ≡ get_or c.args.parts.now c.loop-part.part-index c.part-item.result = search rules in
    greatest_step p c.args.parts.now c.loop-part.part-index c.part-item.result _ _ _ (search rules)
    c.loop-part.invariant (c.expression_value.ensures ∙ ap (said p) here) c.greater-value.ensures

pub greatest-returns : goal.greatest-returns
greatest-returns t c =
    greatest_end (platform_view c.args.platform.now) c.args.parts.now c.loop-part.part-index _ (search rules)
    c.loop-part.invariant

pub least-loop-part-preserved : goal.least-loop-part-preserved
least-loop-part-preserved t c =
    let p = platform_view c.args.platform.now in
    let here : c.part-item.result ≡ get_or c.args.parts.now c.loop-part.part-index c.part-item.result = search rules in
    least_step p c.args.parts.now c.loop-part.part-index c.part-item.result _ _ _ (search rules)
    c.loop-part.invariant (c.expression_value.ensures ∙ ap (said p) here) c.lesser-value.ensures

pub least-returns : goal.least-returns
least-returns t c =
    least_end (platform_view c.args.platform.now) c.args.parts.now c.loop-part.part-index _ (search rules)
    c.loop-part.invariant
