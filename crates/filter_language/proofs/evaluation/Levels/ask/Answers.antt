use Rattle.std.proofs.Common.{sym, ◌∙◌, ap}
use Rattle.filter_language.specs.Evaluation.{known_view, stack_view, with_operand}
use Rattle.filter_language.proofs.Skipping.{asked_agrees, skipped_agrees}
use Rattle.filter_language.proofs.evaluation.Levels.ask.Goals as goal

pub returns-then-not-is_decided : goal.returns-then-not-is_decided
returns-then-not-is_decided g c = λ all agree.
    asked_agrees (stack_view c.args.self.now) all _ _
    (c.with-self.ensures ∙ ap (with_operand (known_view c.args.self.now.inner)) c.question_value.ensures)
    agree

pub returns-else-not-is_decided : goal.returns-else-not-is_decided
returns-else-not-is_decided g c = λ all agree.
    skipped_agrees (stack_view c.args.self.now) all _ (sym c.is_decided.ensures ∙ c.if-not-is_decided.false) agree
