-- Accepted files have the same profile where their merged trees agree on its chain, and their layers
-- give it the same rules.
use Rattle.std.proofs.Common.{◌≡◌, ◌↔◌, ◌∙◌, List, [], ◌∷◌, ◌++◌, map, is_some, unwrap_or, IsTrue, sym, ap, subst}
use Rattle.nextest_engines.specs.Readings.{Readings}
use Rattle.nextest_engines.specs.declared.queries.BuildPlatforms.{BuildPlatforms}
use Rattle.nextest_inheritance.specs.Names.{default_name}
use Rattle.nextest_inheritance.specs.Parents.{Parents, IsChain, LeadToDefault, parent_or_default, with_default}
use Rattle.nextest_inheritance.proofs.Chains.{is_chain}
use Rattle.nextest_load.specs.Agreement.{node_of_profile}
use Rattle.nextest_load.specs.Trees.{tree_in, merged_tree}
use Rattle.nextest_load.proofs.Agreement.{Alike}
use Rattle.nextest_load.proofs.AreScriptsOf.{wrappers_stay, setups_stay}
use Rattle.nextest_load.proofs.Closing.{sources_readable}
use Rattle.nextest_load.proofs.MergedScripts.{named_at}
use Rattle.nextest_load.proofs.ProfileNodes.{merged_node, parent_node, profile_in_config, parent_in_config}
use Rattle.nextest_load.proofs.Under.{Leads, sources_lead}
use Rattle.nextest_rules.specs.Rules.{at_name}
use Rattle.nextest_settings.specs.Chains.{overrides_of, script_rules_of, nearest_filter, match_all_filter}
use Rattle.nextest_settings.specs.Platforms.{rule_on, default_filter_of}
use Rattle.nextest_settings.specs.Profile.{EvaluatableModel}
use Rattle.nextest_settings.specs.Settings.{fallback_of}
use Rattle.nextest_settings.proofs.Chains.{fields_same}
use Rattle.nextest_sources.specs.InputFaults.{Each}
use Rattle.nextest_sources.specs.Inputs.{sources_in}
use Rattle.nextest_tables.specs.FileTexts.{IsIn}
use Rattle.nextest_tables.specs.Written.{Name}
use Rattle.nextest_config.specs.Laws.{AcceptedFiles, meant_by, parents_by, profiles_by, profile_by, HaveSameProfile}
use Rattle.nextest_config.proofs.GiveTheSame.{give_the_same}

-- tables lead to the profiles of the sources of accepted files
pub all_lead : {M K P : Type 0} (engines : Readings M K P) (a : AcceptedFiles engines)
    → Each (λ s. Leads (tree_in s)) (sources_in a.files)
all_lead engines a = sources_lead (sources_in a.files) (sources_readable engines a.features a.files a.rules_hold)

each_front : {X : Type 0} (P : X → Type 0) (xs ys : List X) → Each P (xs ++ ys) → Each P xs
each_front P [] ys h = tt
each_front P (x ∷ xs) ys h = (h.0, each_front P xs ys h.1)

-- the profile itself is one of those that count
own_fact : (P : Name → Type 0) (parents : Parents) (name : Name) (chain : List Name)
    → LeadToDefault parents name chain → Each P (with_default chain) → P name
own_fact P parents name [] leads h = subst P (sym leads) h.0
own_fact P parents name (x ∷ xs) leads h = subst P leads.0 h.0

-- names lead on by the same parents
same_leads : (ps qs : Parents) (name : Name) (chain : List Name) → Each (λ n. ps n ≡ qs n) chain
    → LeadToDefault ps name chain → LeadToDefault qs name chain
same_leads ps qs name [] h leads = leads
same_leads ps qs name (x ∷ xs) h leads =
    let same : ps name ≡ qs name = subst (λ n. ps n ≡ qs n) leads.0 h.0 in (
      leads.0,
      leads.1,
      same_leads ps qs (parent_or_default qs name) xs h.1
          (subst (λ n. LeadToDefault ps n xs) (ap (λ o. unwrap_or o default_name) same) leads.2),
    )

module _ {M K P : Type 0} (engines : Readings M K P) (platforms : BuildPlatforms P)
    (a b : AcceptedFiles engines) (name : Name) (chain : List Name) (is : IsChain (parents_by engines a) name chain)
    (whole : Alike (with_default chain) (merged_tree (sources_in a.files)) (merged_tree (sources_in b.files)))
    (overrides : overrides_of (meant_by engines a).config.layers (with_default chain)
    ≡ overrides_of (meant_by engines b).config.layers (with_default chain))
    (script_rules : script_rules_of (meant_by engines a).config.layers (with_default chain)
    ≡ script_rules_of (meant_by engines b).config.layers (with_default chain))
    (nearest : nearest_filter (meant_by engines a).config.layers (with_default chain)
    ≡ nearest_filter (meant_by engines b).config.layers (with_default chain)) where
  abbrev names : List Name
  names = with_default chain

  abbrev p : EvaluatableModel M
  p = profile_by engines platforms a name chain

  abbrev q : EvaluatableModel M
  q = profile_by engines platforms b name chain

  profiles_at : (ns : List Name)
      → Each (λ n. node_of_profile n (merged_tree (sources_in a.files))
      ≡ node_of_profile n (merged_tree (sources_in b.files))) ns
      → Each (λ n. at_name n (meant_by engines a).config.profiles ≡ at_name n (meant_by engines b).config.profiles) ns
  profiles_at [] h = tt
  profiles_at (n ∷ ns) h = (
    profile_in_config engines n (sources_in a.files) ∙ ap merged_node h.0
        ∙ sym (profile_in_config engines n (sources_in b.files)),
    profiles_at ns h.1,
  )

  parents_at : (ns : List Name)
      → Each (λ n. node_of_profile n (merged_tree (sources_in a.files))
      ≡ node_of_profile n (merged_tree (sources_in b.files))) ns
      → Each (λ n. parents_by engines a n ≡ parents_by engines b n) ns
  parents_at [] h = tt
  parents_at (n ∷ ns) h = (
    parent_in_config engines n (sources_in a.files) ∙ ap parent_node h.0
        ∙ sym (parent_in_config engines n (sources_in b.files)),
    parents_at ns h.1,
  )

  same_there : IsIn (profiles_by engines a) name ↔ IsIn (profiles_by engines b) name
  same_there =
      let same = own_fact (λ n. at_name n (meant_by engines a).config.profiles
      ≡ at_name n (meant_by engines b).config.profiles) (parents_by engines a) name chain is.leads
      (profiles_at names whole.profiles) in
      let both = sym (named_at (meant_by engines a).config.profiles name) ∙ ap is_some same
      ∙ named_at (meant_by engines b).config.profiles name in
      (subst IsTrue both, subst IsTrue (sym both))

  same_chain : IsChain (parents_by engines b) name chain
  same_chain = is_chain (parents_by engines b) name chain
      (same_leads (parents_by engines a) (parents_by engines b) name chain
      (each_front (λ n. parents_by engines a n ≡ parents_by engines b n) chain (default_name ∷ [])
      (parents_at names whole.profiles)) is.leads)

  same_overrides : p.overrides ≡ q.overrides
  same_overrides = ap (map (rule_on engines.meets platforms)) overrides

  same_rules : p.script_rules ≡ q.script_rules
  same_rules = ap (map (rule_on engines.meets platforms)) script_rules

  same_filter : p.default_filter ≡ q.default_filter
  same_filter = λ i. default_filter_of (same_overrides i) (nearest i) (match_all_filter engines.match_all)

  same_fields : p.facts.fields ≡ q.facts.fields
  same_fields = fields_same names (meant_by engines a).config.profiles (meant_by engines b).config.profiles
      (profiles_at names whole.profiles)

  pub same_profile : HaveSameProfile engines platforms a b name chain
  same_profile = record {
    there = same_there;
    is_chain = same_chain;
    gives = give_the_same engines p q same_filter same_overrides same_rules
        (λ mode s. ap (λ fs. fallback_of fs mode s) same_fields)
        (wrappers_stay names (sources_in a.files) (sources_in b.files) whole a.scripts b.scripts a.are_scripts
        b.are_scripts)
        (setups_stay names (sources_in a.files) (sources_in b.files) whole a.scripts b.scripts a.are_scripts
        b.are_scripts);
    fields = same_fields;
  }
