use Rattle.std.proofs.lemmas.Result.{on_ok_weaker}
use Rattle.rinqebo_findings.proofs.Forms.{forms_later}
use Rattle.rinqebo_findings.proofs.nextest_values.add_text.Goals as goal

pub returns : goal.returns
returns c =
    let source = c.args.refused.now.source in
    on_ok_weaker c.add_value.result (forms_later source.layers.now source.position _ _ _ _ _ _) c.add_value.ensures
