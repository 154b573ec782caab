-- The highest layer of a run: the repository's file.
use Rattle.std.proofs.Common.{◌≡◌, ◌∙◌, ◌+◌, ◌-◌, List, [], ◌∷◌, ◌++◌, None, Option, Some, ap, arith, length, map, option_map, refl, reverse, sym, unwrap_or}
use Rattle.std.proofs.Math.Seq.{get_or-append_seam}
use Rattle.std.proofs.lemmas.List.{length-append, length-map}
use Rattle.std.proofs.lemmas.Option.{slice_get-get_or, slice_get-map}
use Rattle.std.specs.Option.{option_and_then, option_map_or}
use Rattle.std.specs.List.{slice_get}
use Rattle.nextest_sources.specs.Sources.{explicit_file, discovered_file, outcome_view}
use Rattle.nextest_sources.specs.declared.sources.FileInput.{FileInput}
use Rattle.rinqebo_forms.specs.Features.{tree_read}
use Rattle.rinqebo_request.specs.Files.Features.{repository_file}
use Rattle.rinqebo_request.specs.Files.Layers.{LayerRead, default_layer, file_layer, layer_tree, layer_view, layers_read, organisation_layers, repository_layer, tool_layer}
use Rattle.rinqebo_request.specs.declared.files.gathering.Gathered.{Gathered}
use Rattle.rinqebo_request.specs.declared.files.layers.Layer.{Layer}

-- the last one of a list
last_one : {X : Type 0} (xs : List X) (x : X) → slice_get (xs ++ x ∷ []) (length (xs ++ x ∷ []) - 1) ≡ Some x
last_one xs x =
    let long : length (xs ++ x ∷ []) ≡ length xs + 1 = length-append xs (x ∷ []) in
    let here : length (xs ++ x ∷ []) - 1 ≡ length xs = omega (arith, long) in
    ap (slice_get (xs ++ x ∷ [])) here
    ∙ slice_get-get_or (xs ++ x ∷ []) (length xs) x (omega (arith, long))
    ∙ ap Some (get_or-append_seam xs x [] x)

-- the tree of a layer that was read
tree_at : (o : Option Layer) (read : LayerRead) → option_map layer_view o ≡ Some read
    → option_and_then layer_tree o ≡ read.tree
tree_at None read is = ap (option_and_then (λ r. r.tree)) is
tree_at (Some layer) read is = ap (option_and_then (λ r. r.tree)) is

-- the tree of the repository's file, which a user named or which was looked for
repository_tree : (explicit : Option FileInput) (shared : FileInput)
    → (option_map_or (file_layer (Some explicit_file)) explicit (file_layer (Some discovered_file) shared)).tree
    ≡ tree_read (outcome_view (unwrap_or explicit shared).outcome)
repository_tree None shared = refl
repository_tree (Some file) shared = refl

-- the highest layer of a run has the tree of the repository's file
pub repository_last : (layers : List Layer) (gathered : Gathered) → map layer_view layers ≡ layers_read gathered
    → option_and_then layer_tree (slice_get layers (length layers - 1))
    ≡ tree_read (outcome_view (repository_file gathered).outcome)
repository_last layers gathered are =
    let lower : List LayerRead = default_layer ∷ (map tool_layer (reverse gathered.tools.items)
    ++ organisation_layers gathered.organisation_file) in
    let long : length (layers_read gathered) ≡ length layers = ap length (sym are) ∙ length-map layers layer_view in
    tree_at (slice_get layers (length layers - 1)) (repository_layer gathered)
    (sym (slice_get-map layer_view layers (length layers - 1))
    ∙ ap (λ ls. slice_get ls (length layers - 1)) are
    ∙ ap (λ n. slice_get (layers_read gathered) (n - 1)) (sym long)
    ∙ last_one lower (repository_layer gathered))
    ∙ repository_tree gathered.config_file gathered.paths.shared
