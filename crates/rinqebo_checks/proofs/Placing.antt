-- Where among layers a refusal is.
use Rattle.std.proofs.Common.{◌≡◌, ℕ, List, Option, None, Some, option_map, refl, ap, ◌∙◌}
use Rattle.std.specs.List.{position}
use Rattle.std.specs.Option.{option_and_then}
use Rattle.nextest_elements.specs.Owner.{Owner}
use Rattle.nextest_sources.specs.Sources.{Source, owner_of_source}
use Rattle.rinqebo_request.specs.Files.Origins.{reported_file}
use Rattle.rinqebo_request.specs.Files.RuleTables.{lies_at}
use Rattle.rinqebo_request.specs.declared.files.layers.Layer.{Layer}
use Rattle.rinqebo_checks.specs.Refusals.{position_of}

module _ (layers : List Layer) where
  -- a refusal is about a file
  pub at_file : (source : Option Source) (owner : Owner) (path : List ℕ) (place : Option ℕ)
      → Some path ≡ option_map (λ s. s.path) source
      → ((s : Source) → source ≡ Some s → owner ≡ owner_of_source s.kind)
      → place ≡ position (λ layer. lies_at owner path (reported_file layer.source)) layers
      → place ≡ option_and_then (position_of layers) source
  at_file None owner path place path_is owner_is is = absurd (cc)
  at_file (Some s) owner path place path_is owner_is is =
      let same : path ≡ s.path = cc in
      is ∙ ap (λ p. position (λ layer. lies_at owner p (reported_file layer.source)) layers) same
      ∙ ap (λ o. position (λ layer. lies_at o s.path (reported_file layer.source)) layers) (owner_is s refl)

  -- a refusal is about no file
  pub at_none : (source : Option Source) → None ≡ option_map (λ s. s.path) source
      → None ≡ option_and_then (position_of layers) source
  at_none None is = refl
  at_none (Some s) is = absurd (cc)
