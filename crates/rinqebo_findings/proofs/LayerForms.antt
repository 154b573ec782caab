-- Findings of what nextest refuses in the files of layers.
use Rattle.std.proofs.Common.{◌≡◌, ◌<◌, ◌≤◌, ◌+◌, ℕ, List, [], ◌∷◌, ◌++◌, length, map, drop, get_or, Some, sym, ap, ◌∙◌, subst, append_assoc, append-nil}
use Rattle.std.specs.Prelude.{flat_map}
use Rattle.std.specs.List.{enumerate_from}
use Rattle.std.proofs.lemmas.List.{drop_all, drop_more}
use Rattle.rinqebo_report.specs.declared.finding.Finding.{Finding}
use Rattle.rinqebo_request.specs.Files.Layers.{layer_tree}
use Rattle.rinqebo_request.specs.declared.files.layers.Layer.{Layer}
use Rattle.rinqebo_findings.specs.Each.{AreOfEach}
use Rattle.rinqebo_findings.specs.NextestForms.{AddsForms, form_faults, FormFault, if_given, IsFormFinding, layer_faults, ReportForms}
use Rattle.rinqebo_findings.proofs.Each.{of_both}

module _ (layers : List Layer) where
  -- a finding is that of a fault in the file of a layer
  abbrev IsPlaced : ℕ × FormFault → Finding → Type 0
  IsPlaced placed finding = IsFormFinding layers (Some placed.0) placed.1 finding

  -- the findings of the faults of one layer
  of_layer : (place : ℕ) (faults : List FormFault) (found : List Finding)
      → AreOfEach (IsFormFinding layers (Some place)) faults found
      → AreOfEach IsPlaced (map (λ (fault : FormFault). (place, fault)) faults) found
  of_layer place [] [] h = h
  of_layer place [] (finding ∷ found) h = absurd h
  of_layer place (fault ∷ faults) [] h = absurd h
  of_layer place (fault ∷ faults) (finding ∷ found) h = (h.0, of_layer place faults found h.1)

  -- the faults of the layers from a position on
  abbrev faults_from : ℕ → List (ℕ × FormFault)
  faults_from place = flat_map layer_faults (enumerate_from place (drop place layers))

  -- the findings of the layers from a position on make the report of all
  abbrev pub LeftLayers : ℕ → List Finding → Type 0
  LeftLayers place found =
      (more : List Finding) → AreOfEach IsPlaced (faults_from place) more
      → ReportForms layers (found ++ more)

  -- those of a layer are added
  pub layers_more : (place : ℕ) (layer : Layer) (found all : List Finding) → place < length layers
      → layer ≡ get_or layers place layer → LeftLayers place found
      → AddsForms layers (Some place) (if_given form_faults (layer_tree layer)) found all
      → LeftLayers (place + 1) all
  layers_more place layer found all within is before added =
      let here : drop place layers ≡ layer ∷ drop (place + 1) layers =
      drop_more layers place layer within ∙ ap (λ l. l ∷ drop (place + 1) layers) (sym is) in
      let faults : faults_from place ≡ layer_faults (place, layer) ++ faults_from (place + 1) =
      ap (λ ls. flat_map layer_faults (enumerate_from place ls)) here in
      λ more h. subst (ReportForms layers)
      (sym (append_assoc found added.more more) ∙ ap (λ fs. fs ++ more) (sym added.whole))
      (before (added.more ++ more)
      (subst (λ fs. AreOfEach IsPlaced fs (added.more ++ more)) (sym faults)
      (of_both IsPlaced (layer_faults (place, layer)) (faults_from (place + 1)) added.more more
      (of_layer place (if_given form_faults (layer_tree layer)) added.more added.are) h)))

  -- those of all are added
  pub layers_none : (place : ℕ) (found : List Finding) → length layers ≤ place → LeftLayers place found
      → ReportForms layers found
  layers_none place found no_more before =
      subst (ReportForms layers) (append-nil found)
      (before [] (subst (λ ls. AreOfEach IsPlaced (flat_map layer_faults (enumerate_from place ls)) [])
      (sym (drop_all place layers no_more)) tt))
