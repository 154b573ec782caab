use Rattle.std.proofs.Common.{◌∙◌, ap}
use Rattle.std.proofs.lemmas.Result.{IfOk-weaker}
use Rattle.nextest_config.specs.ValueTexts.{kind_text, optional_text}
use Rattle.nextest_config.proofs.run.row.TestRow.value_text.Goals as goal

pub returns-in-Some : goal.returns-in-Some
returns-in-Some c =
    let same = rw c.in-Some.is at c.value.ensures in
    IfOk-weaker c.value_text.result _ _ (λ text is. is ∙ ap (optional_text kind_text) same) c.value_text.ensures
