use Rattle.std.proofs.Common.{◌∙◌, sym}
use Rattle.nextest_places.proofs.spans.Stepping.{at_char, at_line_end, at_lone_return}
use Rattle.nextest_places.proofs.spans.step.next_step.Goals.{else-c-eq13-via-then-c-eq13+else-byte_at-eq10, else-c-eq13-via-else-c-eq13}
use Rattle.nextest_places.proofs.spans.step.next_step.Goals as goal

pub returns-then-byte_at-eq10 : goal.returns-then-byte_at-eq10
returns-then-byte_at-eq10 c =
    at_line_end c.args.unit c.args.at c.args.rest.now _ c.in_ok-c.c _ _ (sym c.chars.ensures.rest ∙ c.in_ok-c.ensures.steps.0) c.if-c-eq13.true
    (sym c.byte_at.ensures ∙ c.if-byte_at-eq10.true) c.behind-next.ensures c.behind-end.ensures

pub returns : goal.returns
returns c = elim c.else-c-eq13.branch [
  | else-c-eq13-via-then-c-eq13+else-byte_at-eq10 w ↦
      at_lone_return c.args.unit c.args.at c.args.rest.now _ c.in_ok-c.c _ _ (sym c.chars.ensures.rest ∙ c.in_ok-c.ensures.steps.0)
      (λ feed. w.if-byte_at-eq10.false (w.byte_at.ensures ∙ feed)) c.len_utf8-len.ensures.value c.behind-next.ensures
  | else-c-eq13-via-else-c-eq13 w ↦
      at_char c.args.unit c.args.at c.args.rest.now _ c.in_ok-c.c _ _ (sym c.chars.ensures.rest ∙ c.in_ok-c.ensures.steps.0)
      w.if-c-eq13.false c.len_utf8-len.ensures.value c.behind-next.ensures
]
