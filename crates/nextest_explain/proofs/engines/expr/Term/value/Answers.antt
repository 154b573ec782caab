use Rattle.std.proofs.Common.{sym, ◌∙◌, ap, option_map, not}
use Rattle.nextest_explain.proofs.engines.Negations.{negated_even, negated_odd}
use Rattle.nextest_explain.proofs.engines.expr.Term.value.Goals as goal

pub returns-then-self-eq0 : goal.returns-then-self-eq0
returns-then-self-eq0 c = c.value-value.ensures ∙ sym (negated_even _ _ c.if-self-eq0.true)

pub returns-else-self-eq0 : goal.returns-else-self-eq0
returns-else-self-eq0 c =
    c.negate.ensures ∙ ap (option_map not) c.value-value.ensures ∙ sym (negated_odd _ _ c.if-self-eq0.false)
