use Rattle.std.proofs.lemmas.Result.{on_ok_weaker}
use Rattle.rinqebo_findings.proofs.Forms.{forms_both}
use Rattle.rinqebo_findings.proofs.nextest_forms.add_forms.Goals as goal

pub returns : goal.returns
returns c =
    let source = c.args.refused.now.source in
    on_ok_weaker c.add_profiles.result
    (λ last. forms_both source.layers.now source.position _ _ _ _ _ c.in_ok-add_versions.ensures
    (forms_both source.layers.now source.position _ _ _ _ _ c.in_ok-add_features.ensures last))
    c.add_profiles.ensures
