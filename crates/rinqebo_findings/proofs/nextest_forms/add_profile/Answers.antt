use Rattle.std.proofs.lemmas.Result.{on_ok_weaker}
use Rattle.rinqebo_findings.proofs.Forms.{forms_both}
use Rattle.rinqebo_findings.proofs.nextest_forms.add_profile.Goals as goal

pub returns : goal.returns
returns c =
    let source = c.args.refused.now.source in
    on_ok_weaker c.add_terminate.result
    (forms_both source.layers.now source.position _ _ _ _ _ c.in_ok-add_archive.ensures) c.add_terminate.ensures
