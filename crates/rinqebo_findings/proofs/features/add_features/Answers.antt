use Rattle.std.proofs.Common.{◌≡◌, ◌∙◌, ◌∷◌, [], get_or, subst}
use Rattle.std.proofs.lemmas.List.{take_more}
use Rattle.nextest_elements.specs.Experimental.{experimental_text}
use Rattle.nextest_elements.specs.declared.experimental.ConfigExperimental.{ConfigExperimental}
use Rattle.nextest_elements.specs.declared.experimental.ConfigExperimental.TheVariants.{SetupScripts}
use Rattle.rinqebo_findings.specs.Later.{AddsLater, document_at, feature_fault}
use Rattle.rinqebo_findings.proofs.Later.{adds_next}
use Rattle.rinqebo_findings.proofs.features.add_features.Goals as goal

pub loop-feature-preserved : goal.loop-feature-preserved
loop-feature-preserved c =
    let layers = c.args.refused.now.source.layers.now in
    let position = c.args.refused.now.source.position in
    let file = document_at layers position in
    let index = c.loop-feature.feature-index in
    let feature = get_or c.args.features.now index SetupScripts in
    let name : c.as_str.result.now ≡ experimental_text feature = c.as_str.ensures.value ∙ c.in_ok-name.ensures.ok in
    adds_next layers position
    (λ (f : ConfigExperimental). feature_fault file c.args.features.now (experimental_text f) ∷ [])
    c.args.features.now index feature _ _ _ (take_more c.args.features.now index SetupScripts c.loop-feature-test.true)
    c.loop-feature.invariant
    (subst
    (λ n. AddsLater layers position (feature_fault file c.args.features.now n ∷ []) c.loop-feature.findings.items
    c.add_feature.new.findings.items) name c.in_ok-add_feature.ensures)
