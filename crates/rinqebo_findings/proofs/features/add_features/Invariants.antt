use Rattle.std.proofs.Common.{◌∷◌, [], take}
use Rattle.std.specs.Prelude.{flat_map}
use Rattle.nextest_elements.specs.Experimental.{experimental_text}
use Rattle.nextest_elements.specs.declared.experimental.ConfigExperimental.{ConfigExperimental}
use Rattle.rinqebo_findings.specs.Later.{AddsLater, document_at, feature_fault}
use Rattle.rinqebo_findings.proofs.features.add_features.Given as goal

-- the findings of the features so far are added
abbrev pub invariant-loop-feature : goal.invariant-loop-feature
invariant-loop-feature l =
    let layers = l.refused.source.layers.now in
    let position = l.refused.source.position in
    let file = document_at layers position in
    AddsLater layers position
    (flat_map (λ (f : ConfigExperimental). feature_fault file l.features (experimental_text f) ∷ [])
    (take l.feature-index l.features)) l.initial.findings.items l.findings.items
