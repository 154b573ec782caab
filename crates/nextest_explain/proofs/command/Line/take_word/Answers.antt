use Rattle.std.proofs.Common.{◌∙◌, codes, sym}
use Rattle.std.proofs.lemmas.Str.Pattern.{starts_text}
use Rattle.nextest_explain.proofs.command.Line.take_word.Goals as goal

pub returns-in_ok-push-in_default-2 : goal.returns-in_ok-push-in_default-2
returns-in_ok-push-in_default-2 c =
    let is = starts_text c.starts_with.result (codes "--") c.args.word.now c.starts_with.ensures.cases in
    c.in_ok-push-in_default-2.ensures (sym is ∙ c.if-starts_with.false)
