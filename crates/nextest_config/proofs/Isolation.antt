-- A profile depends on the trees of its chain alone.
use Rattle.std.proofs.Common.{◌≡◌, ◌∙◌, List, [], ◌∷◌, map, sym}
use Rattle.std.specs.List.{AllZip}
use Rattle.nextest_engines.specs.Readings.{Readings}
use Rattle.nextest_engines.specs.declared.queries.BuildPlatforms.{BuildPlatforms}
use Rattle.nextest_inheritance.specs.Parents.{IsChain, with_default}
use Rattle.nextest_load.specs.Agreement.{node_of_profile, AgreeOn}
use Rattle.nextest_load.specs.Loading.{source_layer}
use Rattle.nextest_load.specs.Trees.{tree_in, own_tree}
use Rattle.nextest_load.proofs.Agreement.{own_alike, merged_alike, zip_reversed}
use Rattle.nextest_load.proofs.ProfileNodes.{layer_node, profile_in_layer}
use Rattle.nextest_load.proofs.Under.{Leads}
use Rattle.nextest_settings.proofs.Chains.{SameAt, order_same, nearest_same}
use Rattle.nextest_sources.specs.InputFaults.{Each}
use Rattle.nextest_sources.specs.Inputs.{SourceText, sources_in}
use Rattle.nextest_tables.specs.Written.{Name}
use Rattle.nextest_config.specs.Laws.{AcceptedFiles, meant_by, parents_by, HaveSameProfile}
use Rattle.nextest_config.proofs.HaveSameProfile.{all_lead, same_profile}

module _ {M K P : Type 0} (engines : Readings M K P) where
  layer_same : (names : List Name) (s t : SourceText) → s.source ≡ t.source
      → Each (λ name. node_of_profile name (own_tree s) ≡ node_of_profile name (own_tree t)) names
      → SameAt names (source_layer engines s) (source_layer engines t)
  layer_same [] s t same h = tt
  layer_same (name ∷ names) s t same h = (
    profile_in_layer engines name s ∙ (λ i. layer_node engines (same i) name (h.0 i))
        ∙ sym (profile_in_layer engines name t),
    layer_same names s t same h.1,
  )

  layers_same : (names : List Name) (ss ts : List SourceText) → AllZip (AgreeOn names) ss ts
      → Each (λ s. Leads (tree_in s)) ss → Each (λ t. Leads (tree_in t)) ts
      → AllZip (SameAt names) (map (source_layer engines) ss) (map (source_layer engines) ts)
  layers_same names [] [] z all_s all_t = tt
  layers_same names [] (t ∷ ts) z all_s all_t = absurd z
  layers_same names (s ∷ ss) [] z all_s all_t = absurd z
  layers_same names (s ∷ ss) (t ∷ ts) z all_s all_t = (
    layer_same names s t z.0.source (own_alike names s t z.0 all_s.0 all_t.0).profiles,
    layers_same names
        ss ts z.1 all_s.1 all_t.1,
  )

module _ {M K P : Type 0} (engines : Readings M K P) (platforms : BuildPlatforms P)
    (a b : AcceptedFiles engines) (name : Name) (chain : List Name) (is : IsChain (parents_by engines a) name chain)
    (agree : AllZip (AgreeOn (with_default chain)) (sources_in a.files) (sources_in b.files)) where
  abbrev names : List Name
  names = with_default chain

  layers : AllZip (SameAt names) (meant_by engines a).config.layers (meant_by engines b).config.layers
  layers =
      zip_reversed (SameAt names) (map (source_layer engines) (sources_in a.files))
      (map (source_layer engines) (sources_in b.files))
      (layers_same engines names (sources_in a.files) (sources_in b.files) agree (all_lead engines a)
      (all_lead engines b))

  pub isolated : HaveSameProfile engines platforms a b name chain
  isolated =
      let la = (meant_by engines a).config.layers in
      let lb = (meant_by engines b).config.layers in
      same_profile engines platforms a b name chain is
      (merged_alike names (sources_in a.files) (sources_in b.files) agree (all_lead engines a) (all_lead engines b))
      (order_same (λ r. r.overrides) names la lb layers) (order_same (λ r. r.script_rules) names la lb layers)
      (nearest_same names la lb layers)
