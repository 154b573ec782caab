use Rattle.std.proofs.Common.{◌==◌, Some, sym, ◌∙◌, ap}
use Rattle.filter_language.specs.Evaluation.{stack_view, behind}
use Rattle.filter_language.proofs.Skipping.{opened_agrees, full_agrees}
use Rattle.filter_language.proofs.Stacks.{stack_length, pushed}
use Rattle.filter_language.proofs.evaluation.Levels.open.Goals as goal

pub returns-then-not-is_full : goal.returns-then-not-is_full
returns-then-not-is_full c = λ all agree.
    let before = c.args.self.now in
    opened_agrees (stack_view before) all _ _
    (c.behind-self.ensures ∙ ap (λ decided. behind (Some decided)) c.is_decided.ensures)
    (pushed before.outer.items c.push.new.self.items before.inner c.push.ensures.items)
    (ap (λ n. n == 128) (stack_length before.outer.items) ∙ sym c.is_full.ensures.value ∙ c.if-not-is_full.true)
    agree

pub returns-else-not-is_full : goal.returns-else-not-is_full
returns-else-not-is_full c = λ all agree.
    full_agrees (stack_view c.args.self.now) all
    (ap (λ n. n == 128) (stack_length c.args.self.now.outer.items)
    ∙ sym c.is_full.ensures.value ∙ c.if-not-is_full.false)
    agree
