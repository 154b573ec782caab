use Rattle.std.proofs.Common.{inl, inr}
use Rattle.std.proofs.lemmas.Result.{IfOk-weaker}
use Rattle.rinqebo_findings.specs.LaterWords.{AreTableWords}
use Rattle.rinqebo_findings.proofs.LaterWords.{of_any}
use Rattle.rinqebo_findings.proofs.expressions.text_words.Goals as goal

pub returns-in-InvalidFilter : goal.returns-in-InvalidFilter
returns-in-InvalidFilter c =
    of_any c.filter_words.result
    (AreTableWords c.args.code c.args.stopped.text.now c.args.stopped.label.now c.args.stopped.start)
    (λ words. inl c.in-InvalidFilter.is)

pub returns-in_default : goal.returns-in_default
returns-in_default c =
    IfOk-weaker c.platform_words.result _
    (AreTableWords c.args.code c.args.stopped.text.now c.args.stopped.label.now c.args.stopped.start)
    (λ words are. inr are) c.platform_words.ensures
