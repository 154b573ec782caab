-- The sources of a side that is compared by what its files mean are files, but for the defaults.
use Rattle.std.proofs.Common.{◌≡◌, ◌∙◌, ℕ, zero, suc, List, [], ◌∷◌, ◌++◌, Option, None, Some, map, option_map, sym, ap, reverse, refl, subst}
use Rattle.std.specs.Prelude.{slice_get}
use Rattle.std.specs.Option.{option_map_or}
use Rattle.std.specs.List.{AllByRecursion}
use Rattle.std.proofs.lemmas.Option.{slice_get-map}
use Rattle.nextest_sources.specs.Sources.{Source as File, explicit_file, discovered_file}
use Rattle.nextest_sources.specs.declared.sources.FileInput.{FileInput}
use Rattle.nextest_sources.specs.declared.sources.ToolConfigFile.{ToolConfigFile}
use Rattle.rinqebo_request.specs.Files.Layers.{LayerRead, default_layer, file_layer, layer_view, organisation_layers, repository_layer, tool_layer}
use Rattle.rinqebo_request.specs.declared.files.gathering.Gathered.{Gathered}
use Rattle.rinqebo_diff.specs.Sides.{Evaluation, IsEvaluationOf}
use Rattle.rinqebo_diff.specs.declared.request.DiffSide.{DiffSide}
use Rattle.rinqebo_diff.proofs.OneOrigins.{AreFiles}

-- A source that was read is a file.
record IsFile (read : LayerRead) : Type 0 where
  file : File
  is : read.file ≡ Some file

both_files : (xs ys : List LayerRead) → AllByRecursion IsFile xs → AllByRecursion IsFile ys
    → AllByRecursion IsFile (xs ++ ys)
both_files [] ys one two = two
both_files (x ∷ xs) ys one two = (one.0, both_files xs ys one.1 two)

of_tools : (tools : List ToolConfigFile) → AllByRecursion IsFile (map tool_layer tools)
of_tools [] = tt
of_tools (t ∷ ts) = (record { file = _; is = refl }, of_tools ts)

of_organisation : (file : Option FileInput) → AllByRecursion IsFile (organisation_layers file)
of_organisation None = tt
of_organisation (Some file) = (record { file = _; is = refl }, tt)

repository_by : (file : Option FileInput) (shared : FileInput)
    → IsFile (option_map_or (file_layer (Some explicit_file)) file (file_layer (Some discovered_file) shared))
repository_by None shared = record { file = _; is = refl }
repository_by (Some file) shared = record { file = _; is = refl }

-- the sources upon the defaults are files
abbrev upper : Gathered → List LayerRead
upper gathered =
    (map tool_layer (reverse gathered.tools.items) ++ organisation_layers gathered.organisation_file)
    ++ repository_layer gathered ∷ []

upper_files : (gathered : Gathered) → AllByRecursion IsFile (upper gathered)
upper_files gathered =
    both_files (map tool_layer (reverse gathered.tools.items) ++ organisation_layers gathered.organisation_file)
    (repository_layer gathered ∷ [])
    (both_files (map tool_layer (reverse gathered.tools.items)) (organisation_layers gathered.organisation_file)
    (of_tools (reverse gathered.tools.items)) (of_organisation gathered.organisation_file))
    (repository_by gathered.config_file gathered.paths.shared, tt)

file_at : (reads : List LayerRead) (n : ℕ) (read : LayerRead) → AllByRecursion IsFile reads → slice_get reads n ≡ Some read
    → IsFile read
file_at [] n read all is = absurd (let no : None ≡ Some read = is in cc)
file_at (r ∷ rs) zero read all is = let same : r ≡ read = cc in subst IsFile same all.0
file_at (r ∷ rs) (suc n) read all is = file_at rs n read all.1 is

-- each source of a side but the defaults is a file
pub sources_files : (side : DiffSide) (gathered : Gathered) (evaluation : Evaluation)
    → IsEvaluationOf side gathered evaluation → AreFiles evaluation.session.layers.items
sources_files side gathered evaluation is = record {
  each = λ n layer here.
      let layers = evaluation.session.layers.items in
      let there : slice_get (default_layer ∷ upper gathered) (suc n) ≡ Some (layer_view layer) =
      sym (ap (λ reads. slice_get reads (suc n)) is.begun.layers) ∙ slice_get-map layer_view layers (suc n)
      ∙ ap (option_map layer_view) here in
      let found = file_at (upper gathered) n (layer_view layer) (upper_files gathered) there in
      (found.file, found.is);
}
