-- What counts for a chain of profiles, where layers have the same of each, or one has nothing of it.
use Rattle.std.proofs.Common.{◌≡◌, ◌∙◌, List, [], ◌∷◌, ◌++◌, Option, None, Some, option_map, option_and_then, unwrap_or, refl, ap}
use Rattle.std.specs.List.{AllZip, cons_option, filter_map, flat_map}
use Rattle.nextest_elements.specs.declared.run_mode.NextestRunMode.{NextestRunMode}
use Rattle.nextest_elements.specs.declared.run_mode.NextestRunMode.TheVariants as modes
use Rattle.nextest_engines.specs.Readings.{Readings}
use Rattle.nextest_load.specs.Agreement.{node_of_profile}
use Rattle.nextest_load.specs.Config.{MergedProfile}
use Rattle.nextest_load.specs.Loading.{source_layer}
use Rattle.nextest_load.specs.Trees.{own_tree}
use Rattle.nextest_load.proofs.Agreement.{zip_from}
use Rattle.nextest_load.proofs.Keeping.{IfThere}
use Rattle.nextest_load.proofs.ProfileNodes.{layer_node, profile_in_layer}
use Rattle.nextest_load.proofs.RulesOfNode.{HasNoRules}
use Rattle.nextest_rules.specs.Rules.{LayerProfile, Layer, written_filter, override_rules, script_rules, at_name}
use Rattle.nextest_sources.specs.InputFaults.{Each}
use Rattle.nextest_sources.specs.Inputs.{SourceText}
use Rattle.nextest_sources.specs.Sources.{Source}
use Rattle.nextest_tables.specs.Texts.{fields_in}
use Rattle.nextest_tables.specs.Written.{Name, WrittenFields}
use Rattle.nextest_tree.specs.Node.{Node, table, no_entries}
use Rattle.nextest_tree.specs.Schema.{first}
use Rattle.nextest_settings.specs.Chains.{at_profile, chosen_at, in_layer, in_order, overrides_of, script_rules_of, fields_of, filter_of_profile, nearest_filter}
use Rattle.nextest_settings.specs.Settings.{fallback_of}
use Rattle.nextest_elements.specs.declared.setting.Setting.{Setting}
use Rattle.nextest_elements.specs.declared.setting.Setting.TheVariants as at

-- layers have the same at these names
abbrev pub SameAt : {M K : Type 0} → List Name → Layer M K → Layer M K → Type 0
SameAt names l m = Each (λ name. at_name name l.profiles ≡ at_name name m.profiles) names

module _ {M K : Type 0} where
  flat_same : {X : Type 0} (f : LayerProfile M K → List X) (name : Name) (ls ms : List (Layer M K))
      → AllZip (λ l m. at_name name l.profiles ≡ at_name name m.profiles) ls ms
      → flat_map (in_layer f name) ls ≡ flat_map (in_layer f name) ms
  flat_same f name [] [] z = refl
  flat_same f name [] (m ∷ ms) z = absurd z
  flat_same f name (l ∷ ls) [] z = absurd z
  flat_same f name (l ∷ ls) (m ∷ ms) z = λ i. unwrap_or (option_map f (z.0 i)) [] ++ flat_same f name ls ms z.1 i

  heads : (name : Name) (names : List Name) (ls ms : List (Layer M K)) → AllZip (SameAt (name ∷ names)) ls ms
      → AllZip (λ l m. at_name name l.profiles ≡ at_name name m.profiles) ls ms
  heads name names ls ms z =
      zip_from (SameAt (name ∷ names)) (λ l m. at_name name l.profiles ≡ at_name name m.profiles) (λ l m h. h.0) ls ms z

  tails : (name : Name) (names : List Name) (ls ms : List (Layer M K)) → AllZip (SameAt (name ∷ names)) ls ms
      → AllZip (SameAt names) ls ms
  tails name names ls ms z = zip_from (SameAt (name ∷ names)) (SameAt names) (λ l m h. h.1) ls ms z

  -- rules in order
  pub order_same : {X : Type 0} (f : LayerProfile M K → List X) (names : List Name) (ls ms : List (Layer M K))
      → AllZip (SameAt names) ls ms → in_order f ls names ≡ in_order f ms names
  order_same f [] ls ms z = refl
  order_same f (name ∷ names) ls ms z =
      λ i. flat_same f name ls ms (heads name names ls ms z) i ++ order_same f names ls ms (tails name names ls ms z) i

  written_same : (name : Name) (ls ms : List (Layer M K))
      → AllZip (λ l m. at_name name l.profiles ≡ at_name name m.profiles) ls ms
      → filter_map (λ (l : Layer M K). option_and_then (λ p. p.default_filter) (at_name name l.profiles)) ls
      ≡ filter_map (λ (l : Layer M K). option_and_then (λ p. p.default_filter) (at_name name l.profiles)) ms
  written_same name [] [] z = refl
  written_same name [] (m ∷ ms) z = absurd z
  written_same name (l ∷ ls) [] z = absurd z
  written_same name (l ∷ ls) (m ∷ ms) z =
      λ i. cons_option (option_and_then (λ p. p.default_filter) (z.0 i)) (written_same name ls ms z.1 i)

  choice_same : (name : Name) (ls ms : List (Layer M K))
      → AllZip (λ l m. at_name name l.profiles ≡ at_name name m.profiles) ls ms
      → filter_of_profile ls name ≡ filter_of_profile ms name
  choice_same name ls ms z = ap (λ os. option_map (chosen_at name at_profile) (first os)) (written_same name ls ms z)

  choices_same : (names : List Name) (ls ms : List (Layer M K)) → AllZip (SameAt names) ls ms
      → filter_map (filter_of_profile ls) names ≡ filter_map (filter_of_profile ms) names
  choices_same [] ls ms z = refl
  choices_same (name ∷ names) ls ms z =
      λ i. cons_option (choice_same name ls ms (heads name names ls ms z) i)
      (choices_same names ls ms (tails name names ls ms z) i)

  -- the default filter of the nearest profile
  pub nearest_same : (names : List Name) (ls ms : List (Layer M K)) → AllZip (SameAt names) ls ms
      → nearest_filter ls names ≡ nearest_filter ms names
  nearest_same names ls ms z = ap first (choices_same names ls ms z)

-- the fields of profiles
pub fields_same : (names : List Name) (ps qs : List (Name × MergedProfile))
    → Each (λ name. at_name name ps ≡ at_name name qs) names → fields_of ps names ≡ fields_of qs names
fields_same [] ps qs h = refl
fields_same (name ∷ names) ps qs h =
    λ i. cons_option (option_map (λ p. p.fields) (h.0 i)) (fields_same names ps qs h.1 i)

-- A layer has no rule of a profile, and no default filter.
pub record HasNothingOf {M K : Type 0} (name : Name) (l : Layer M K) : Type 0 where
  pub overrides : in_layer (λ p. p.overrides) name l ≡ []
  pub script_rules : in_layer (λ p. p.script_rules) name l ≡ []
  pub default_filter : option_and_then (λ p. p.default_filter) (at_name name l.profiles) ≡ None

module _ {M K P : Type 0} (engines : Readings M K P) where
  no_overrides : (source : Source) (name : Name) (o : Option Node) → IfThere HasNoRules o
      → unwrap_or (option_map (λ (p : LayerProfile M K). p.overrides) (layer_node engines source name o)) [] ≡ []
  no_overrides source name None h = refl
  no_overrides source name (Some n) h = ap (override_rules engines source name) h.overrides

  no_script_rules : (source : Source) (name : Name) (o : Option Node) → IfThere HasNoRules o
      → unwrap_or (option_map (λ (p : LayerProfile M K). p.script_rules) (layer_node engines source name o)) [] ≡ []
  no_script_rules source name None h = refl
  no_script_rules source name (Some n) h = ap (script_rules engines source name) h.script_rules

  no_filter : (source : Source) (name : Name) (o : Option Node) → IfThere HasNoRules o
      → option_and_then (λ (p : LayerProfile M K). p.default_filter) (layer_node engines source name o) ≡ None
  no_filter source name None h = refl
  no_filter source name (Some n) h = ap (written_filter engines) h.default_filter

  -- so has a source whose tree over the defaults has no rule there
  pub source_has_nothing : (name : Name) (s : SourceText)
      → IfThere HasNoRules (node_of_profile name (own_tree s)) → HasNothingOf name (source_layer engines s)
  source_has_nothing name s h =
      let node = node_of_profile name (own_tree s) in
      let there = profile_in_layer engines name s in
      record {
        overrides = ap (λ o. unwrap_or (option_map (λ p. p.overrides) o) []) there ∙ no_overrides s.source name node h;
        script_rules = ap (λ o. unwrap_or (option_map (λ p. p.script_rules) o) []) there
            ∙ no_script_rules s.source name node h;
        default_filter = ap (option_and_then (λ p. p.default_filter)) there ∙ no_filter s.source name node h;
      }

-- a profile of which no layer has anything adds nothing in front of others
module _ {M K : Type 0} (name : Name) where
  none_flat : {X : Type 0} (f : LayerProfile M K → List X)
      → ((l : Layer M K) → HasNothingOf name l → in_layer f name l ≡ []) → (ls : List (Layer M K))
      → Each (HasNothingOf name) ls → flat_map (in_layer f name) ls ≡ []
  none_flat f none [] h = refl
  none_flat f none (l ∷ ls) h = rw (none l h.0, none_flat f none ls h.1) refl

  none_filtered : (ls : List (Layer M K)) → Each (HasNothingOf name) ls
      → filter_map (λ (l : Layer M K). option_and_then (λ p. p.default_filter) (at_name name l.profiles)) ls ≡ []
  none_filtered [] h = refl
  none_filtered (l ∷ ls) h = rw (h.0.default_filter) (none_filtered ls h.1)

  pub overrides_behind : (names : List Name) (ls : List (Layer M K)) → Each (HasNothingOf name) ls
      → overrides_of ls (name ∷ names) ≡ overrides_of ls names
  overrides_behind names ls h =
      ap (λ xs. xs ++ overrides_of ls names) (none_flat (λ p. p.overrides) (λ l n. n.overrides) ls h)

  pub script_rules_behind : (names : List Name) (ls : List (Layer M K)) → Each (HasNothingOf name) ls
      → script_rules_of ls (name ∷ names) ≡ script_rules_of ls names
  script_rules_behind names ls h =
      ap (λ xs. xs ++ script_rules_of ls names) (none_flat (λ p. p.script_rules) (λ l n. n.script_rules) ls h)

  pub nearest_behind : (names : List Name) (ls : List (Layer M K)) → Each (HasNothingOf name) ls
      → nearest_filter ls (name ∷ names) ≡ nearest_filter ls names
  nearest_behind names ls h =
      ap (λ os. first (cons_option (option_map (chosen_at name at_profile) (first os))
      (filter_map (filter_of_profile ls) names))) (none_filtered ls h)

-- and a layer that has nothing of these profiles may go
module _ {M K : Type 0} (high : List (Layer M K)) (l : Layer M K) (low : List (Layer M K)) where
  flat_without : {X : Type 0} (g : Layer M K → List X) (high : List (Layer M K)) → g l ≡ []
      → flat_map g (high ++ l ∷ low) ≡ flat_map g (high ++ low)
  flat_without g [] none = ap (λ xs. xs ++ flat_map g low) none
  flat_without g (h ∷ high) none = ap (λ xs. g h ++ xs) (flat_without g high none)

  filtered_without : {X : Type 0} (g : Layer M K → Option X) (high : List (Layer M K)) → g l ≡ None
      → filter_map g (high ++ l ∷ low) ≡ filter_map g (high ++ low)
  filtered_without g [] none = ap (λ o. cons_option o (filter_map g low)) none
  filtered_without g (h ∷ high) none = ap (cons_option (g h)) (filtered_without g high none)

  order_without : {X : Type 0} (f : LayerProfile M K → List X)
      → ((name : Name) → HasNothingOf name l → in_layer f name l ≡ []) → (names : List Name)
      → Each (λ name. HasNothingOf name l) names → in_order f (high ++ l ∷ low) names ≡ in_order f (high ++ low) names
  order_without f none [] h = refl
  order_without f none (name ∷ names) h =
      λ i. flat_without (in_layer f name) high (none name h.0) i ++ order_without f none names h.1 i

  choices_without : (names : List Name) → Each (λ name. HasNothingOf name l) names
      → filter_map (filter_of_profile (high ++ l ∷ low)) names ≡ filter_map (filter_of_profile (high ++ low)) names
  choices_without [] h = refl
  choices_without (name ∷ names) h =
      λ i. cons_option (option_map (chosen_at name at_profile)
      (first (filtered_without (λ layer. option_and_then (λ p. p.default_filter)
      (at_name name layer.profiles)) high h.0.default_filter i))) (choices_without names h.1 i)

  pub overrides_without : (names : List Name) → Each (λ name. HasNothingOf name l) names
      → overrides_of (high ++ l ∷ low) names ≡ overrides_of (high ++ low) names
  overrides_without names h = order_without (λ p. p.overrides) (λ name n. n.overrides) names h

  pub script_rules_without : (names : List Name) → Each (λ name. HasNothingOf name l) names
      → script_rules_of (high ++ l ∷ low) names ≡ script_rules_of (high ++ low) names
  script_rules_without names h = order_without (λ p. p.script_rules) (λ name n. n.script_rules) names h

  pub nearest_without : (names : List Name) → Each (λ name. HasNothingOf name l) names
      → nearest_filter (high ++ l ∷ low) names ≡ nearest_filter (high ++ low) names
  nearest_without names h = ap first (choices_without names h)

-- where nothing is written, what else counts decides
pub same_fallback : (fs : List WrittenFields) (mode : NextestRunMode) (s : Setting)
    → fallback_of (fields_in (table no_entries) ∷ fs) mode s ≡ fallback_of fs mode s
same_fallback fs modes.Test at.SlowTimeout = refl
same_fallback fs modes.Benchmark at.SlowTimeout = refl
same_fallback fs mode s = refl
