-- A profile that writes nothing but its parent gives what the parent gives.
use Rattle.std.proofs.Common.{◌≡◌, ◌≢◌, ◌∙◌, List, [], ◌∷◌, map, Some, option_map, unwrap_or, refl, sym, ap, subst}
use Rattle.std.specs.List.{cons_option}
use Rattle.nextest_engines.specs.Readings.{Readings}
use Rattle.nextest_engines.specs.declared.queries.BuildPlatforms.{BuildPlatforms}
use Rattle.nextest_inheritance.specs.Names.{default_name}
use Rattle.nextest_inheritance.specs.Parents.{IsChain, LeadToDefault, with_default}
use Rattle.nextest_inheritance.proofs.Chains.{is_chain}
use Rattle.nextest_load.specs.Agreement.{node_of_profile, WritesOnlyParent}
use Rattle.nextest_load.specs.Config.{MergedProfile}
use Rattle.nextest_load.specs.Loading.{source_layer}
use Rattle.nextest_load.specs.Trees.{tree_in, own_tree, merged_tree}
use Rattle.nextest_load.proofs.Closing.{each_mapped, each_reversed}
use Rattle.nextest_load.proofs.ProfileNodes.{profile_in_config, parent_in_config, not_default}
use Rattle.nextest_load.proofs.Under.{Leads}
use Rattle.nextest_load.proofs.WritesOnlyParent.{own_only, merged_only, only_has_none, only_parent_fields}
use Rattle.nextest_rules.specs.Rules.{Layer}
use Rattle.nextest_settings.specs.Chains.{fields_of, match_all_filter}
use Rattle.nextest_settings.specs.Platforms.{rule_on, default_filter_of}
use Rattle.nextest_settings.specs.Profile.{EvaluatableModel}
use Rattle.nextest_settings.specs.Settings.{fallback_of}
use Rattle.nextest_settings.proofs.Chains.{HasNothingOf, source_has_nothing, overrides_behind, script_rules_behind, nearest_behind, same_fallback}
use Rattle.nextest_sources.specs.InputFaults.{Each}
use Rattle.nextest_sources.specs.Inputs.{SourceText, sources_in}
use Rattle.nextest_tables.specs.Texts.{fields_in}
use Rattle.nextest_tables.specs.Written.{Name}
use Rattle.nextest_tree.specs.Node.{table, no_entries}
use Rattle.nextest_config.specs.Laws.{AcceptedFiles, meant_by, parents_by, profile_by, GiveTheSame}
use Rattle.nextest_config.proofs.GiveTheSame.{give_the_same}
use Rattle.nextest_config.proofs.HaveSameProfile.{all_lead}

module _ {M K P : Type 0} (engines : Readings M K P) (platforms : BuildPlatforms P)
    (a : AcceptedFiles engines) (name parent : Name) (chain : List Name)
    (only : Each (λ s. WritesOnlyParent name (tree_in s)) (sources_in a.files))
    (has : parents_by engines a name ≡ Some parent) (is : IsChain (parents_by engines a) parent chain) where
  abbrev layers : List (Layer M K)
  layers = (meant_by engines a).config.layers

  abbrev p : EvaluatableModel M
  p = profile_by engines platforms a name (name ∷ chain)

  abbrev q : EvaluatableModel M
  q = profile_by engines platforms a parent chain

  other : name ≢ default_name
  other = not_default engines a.features a.files a.rules_hold name parent has

  each_nothing : (ss : List SourceText) → Each (λ s. Leads (tree_in s)) ss
      → Each (λ s. WritesOnlyParent name (tree_in s)) ss → Each (λ s. HasNothingOf name (source_layer engines s)) ss
  each_nothing [] leads writes = tt
  each_nothing (s ∷ ss) leads writes = (
    source_has_nothing engines name s
        (only_has_none (node_of_profile name (own_tree s)) (own_only name other s leads.0 writes.0)),
    each_nothing ss leads.1 writes.1,
  )

  nothing : Each (HasNothingOf name) layers
  nothing =
      each_reversed (HasNothingOf name) (map (source_layer engines) (sources_in a.files))
      (each_mapped (HasNothingOf name) (source_layer engines) (sources_in a.files)
      (each_nothing (sources_in a.files) (all_lead engines a) only))

  same_overrides : p.overrides ≡ q.overrides
  same_overrides = ap (map (rule_on engines.meets platforms))
      (overrides_behind name (with_default chain) layers nothing)

  same_rules : p.script_rules ≡ q.script_rules
  same_rules = ap (map (rule_on engines.meets platforms)) (script_rules_behind name (with_default chain) layers nothing)

  same_filter : p.default_filter ≡ q.default_filter
  same_filter = λ i. default_filter_of (same_overrides i)
      (nearest_behind name (with_default chain) layers nothing i) (match_all_filter engines.match_all)

  pub fields_more : p.facts.fields ≡ fields_in (table no_entries) ∷ q.facts.fields
  fields_more =
      let o = node_of_profile name (merged_tree (sources_in a.files)) in
      let writes = merged_only name other (sources_in a.files) (all_lead engines a) only in
      let written = sym (parent_in_config engines name (sources_in a.files)) ∙ has in
      ap (λ found. cons_option found (fields_of (meant_by engines a).config.profiles (with_default chain)))
      (ap (option_map (λ (r : MergedProfile). r.fields)) (profile_in_config engines name (sources_in a.files))
      ∙ only_parent_fields parent o writes written)

  pub alias_gives : GiveTheSame engines p q
  alias_gives = give_the_same engines p q same_filter same_overrides same_rules
      (λ mode s. ap (λ fs. fallback_of fs mode s) fields_more ∙ same_fallback q.facts.fields mode s)
      (λ id. refl) (λ id. refl)

  pub alias_chain : IsChain (parents_by engines a) name (name ∷ chain)
  alias_chain =
      let Leads' : Name → Type 0 = λ v. LeadToDefault (parents_by engines a) v chain in
      is_chain (parents_by engines a) name (name ∷ chain)
      (refl, other, subst Leads' (sym (ap (λ o. unwrap_or o default_name) has)) is.leads)
