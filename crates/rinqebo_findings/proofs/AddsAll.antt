-- Findings of all that an iterator yields.
use Rattle.std.proofs.Common.{◌≡◌, ℕ, List, [], Option, subst, sym}
use Rattle.std.specs.Prelude.{flat_map}
use Rattle.rinqebo_report.specs.declared.finding.Finding.{Finding}
use Rattle.rinqebo_request.specs.declared.files.layers.Layer.{Layer}
use Rattle.rinqebo_findings.specs.Later.{AddsLater, LaterFault}
use Rattle.rinqebo_findings.proofs.Later.{adds_none}

-- where nothing is left, the findings of all are added
pub adds_each : {X : Type 0} (layers : List Layer) (source : Option ℕ) (of : X → List LaterFault)
    (all items rest : List X) (old new : List Finding) → rest ≡ [] → items ≡ all
    → ((more : List Finding) → AddsLater layers source (flat_map of rest) new more
    → AddsLater layers source (flat_map of items) old more)
    → AddsLater layers source (flat_map of all) old new
adds_each layers source of all items rest old new none same h =
    subst (λ xs. AddsLater layers source (flat_map of xs) old new) same
    (h new (subst (λ xs. AddsLater layers source (flat_map of xs) new new) (sym none) (adds_none layers source new)))
