-- A source that stays apart from the profiles of a chain changes nothing that the chain gives.
use Rattle.std.proofs.Common.{◌≡◌, ◌∙◌, List, [], ◌∷◌, ◌++◌, map, reverse, append_assoc, None, sym, ap, subst}
use Rattle.std.proofs.lemmas.List.{map-append, reverse-append}
use Rattle.nextest_engines.specs.Readings.{Readings}
use Rattle.nextest_engines.specs.declared.queries.BuildPlatforms.{BuildPlatforms}
use Rattle.nextest_inheritance.specs.Parents.{IsChain, with_default}
use Rattle.nextest_load.specs.Agreement.{node_of_profile, StaysApart}
use Rattle.nextest_load.specs.Loading.{source_layer}
use Rattle.nextest_load.specs.Trees.{tree_in, merged_tree}
use Rattle.nextest_load.proofs.Agreement.{Alike, merged_without}
use Rattle.nextest_load.proofs.RulesOfNode.{absent_has_none}
use Rattle.nextest_load.proofs.Under.{Leads}
use Rattle.nextest_rules.specs.Rules.{Layer}
use Rattle.nextest_settings.specs.Chains.{overrides_of, script_rules_of, nearest_filter}
use Rattle.nextest_settings.proofs.Chains.{HasNothingOf, source_has_nothing, overrides_without, script_rules_without, nearest_without}
use Rattle.nextest_sources.specs.InputFaults.{Each}
use Rattle.nextest_sources.specs.Inputs.{SourceText, sources_in}
use Rattle.nextest_tables.specs.Written.{Name}
use Rattle.nextest_config.specs.Laws.{AcceptedFiles, meant_by, parents_by, HaveSameProfile}
use Rattle.nextest_config.proofs.HaveSameProfile.{all_lead, same_profile}

one_of : {X : Type 0} (P : X → Type 0) (below : List X) (x : X) (above : List X) → Each P (below ++ x ∷ above) → P x
one_of P [] x above h = h.0
one_of P (y ∷ below) x above h = one_of P below x above h.1

module _ {X Y : Type 0} (f : X → Y) (below : List X) where
  -- a list turned round, with one element in its midst and without it
  turned_with : (x : X) (above : List X)
      → reverse (map f (below ++ x ∷ above)) ≡ reverse (map f above) ++ f x ∷ reverse (map f below)
  turned_with x above =
      ap reverse (map-append f below (x ∷ above))
      ∙ reverse-append (map f below) (f x ∷ map f above)
      ∙ ap (λ ys. ys ++ reverse (map f below)) (reverse-append (f x ∷ []) (map f above))
      ∙ append_assoc (reverse (map f above)) (f x ∷ []) (reverse (map f below))

  turned_without : (above : List X) → reverse (map f (below ++ above)) ≡ reverse (map f above) ++ reverse (map f below)
  turned_without above = ap reverse (map-append f below above) ∙ reverse-append (map f below) (map f above)

each_nothing : {M K P : Type 0} (engines : Readings M K P) (s : SourceText) → Leads (tree_in s)
    → (names : List Name) → Each (λ name. node_of_profile name (tree_in s) ≡ None) names
    → Each (λ name. HasNothingOf name (source_layer engines s)) names
each_nothing engines s leads [] h = tt
each_nothing engines s leads (name ∷ names) h =
    (source_has_nothing engines name s (absent_has_none name s leads h.0), each_nothing engines s leads names h.1)

module _ {M K P : Type 0} (engines : Readings M K P) (platforms : BuildPlatforms P)
    (a b : AcceptedFiles engines) (name : Name) (chain : List Name) (below : List SourceText) (s : SourceText)
    (above : List SourceText)
    (is : IsChain (parents_by engines a) name chain) (without : sources_in a.files ≡ below ++ above)
    (with_it : sources_in b.files ≡ below ++ s ∷ above) (apart : StaysApart (with_default chain) s) where
  abbrev names : List Name
  names = with_default chain

  all_leads : Each (λ t. Leads (tree_in t)) (below ++ s ∷ above)
  all_leads = subst (Each (λ t. Leads (tree_in t))) with_it (all_lead engines b)

  whole : Alike names (merged_tree (sources_in a.files)) (merged_tree (sources_in b.files))
  whole = subst (λ ss. Alike names (merged_tree ss) (merged_tree (sources_in b.files))) (sym without)
      (subst (λ ss. Alike names (merged_tree (below ++ above)) (merged_tree ss)) (sym with_it)
      (merged_without names below s above apart all_leads))

  abbrev high : List (Layer M K)
  high = reverse (map (source_layer engines) above)

  abbrev low : List (Layer M K)
  low = reverse (map (source_layer engines) below)

  layers_of_a : (meant_by engines a).config.layers ≡ high ++ low
  layers_of_a = ap (λ ss. reverse (map (source_layer engines) ss)) without
      ∙ turned_without (source_layer engines) below above

  layers_of_b : (meant_by engines b).config.layers ≡ high ++ source_layer engines s ∷ low
  layers_of_b = ap (λ ss. reverse (map (source_layer engines) ss)) with_it
      ∙ turned_with (source_layer engines) below s above

  nothing : Each (λ name. HasNothingOf name (source_layer engines s)) names
  nothing = each_nothing engines s (one_of (λ t. Leads (tree_in t)) below s above all_leads) names apart.profiles

  kept : {X : Type 0} (f : List (Layer M K) → X) → f (high ++ source_layer engines s ∷ low) ≡ f (high ++ low)
      → f (meant_by engines a).config.layers ≡ f (meant_by engines b).config.layers
  kept f same = ap f layers_of_a ∙ sym same ∙ sym (ap f layers_of_b)

  pub kept_apart : HaveSameProfile engines platforms a b name chain
  kept_apart =
      let l = source_layer engines s in
      same_profile engines platforms a b name chain is whole
      (kept (λ ls. overrides_of ls names) (overrides_without high l low names nothing))
      (kept (λ ls. script_rules_of ls names) (script_rules_without high l low names nothing))
      (kept (λ ls. nearest_filter ls names) (nearest_without high l low names nothing))
