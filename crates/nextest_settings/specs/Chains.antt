-- What counts for a chain of profiles: their rules in order, their fields, their default filters.
use Rattle.std.specs.Prelude.{ℕ, List, [], ◌++◌, Option, option_map, option_and_then, unwrap_or, filter_map, flat_map, codes}
use Rattle.nextest_inheritance.specs.Names.{default_name}
use Rattle.nextest_load.specs.Config.{MergedProfile}
use Rattle.nextest_rules.specs.Rules.{Compiled, WrittenFilter, OverrideUse, ScriptRuleUse, LayerProfile, Layer, at_name}
use Rattle.nextest_tables.specs.Written.{Name, WrittenFields}
use Rattle.nextest_tree.specs.Schema.{first}

-- what f has of the profile of a name in a layer, nothing where the layer has no such profile
abbrev pub in_layer : {M K X : Type 0} → (LayerProfile M K → List X) → Name → Layer M K → List X
in_layer f name layer = unwrap_or (option_map f (at_name name layer.profiles)) []

-- what f has of the profiles of names: name by name, then source by source from the highest, then
-- in the order of the file
abbrev pub in_order : {M K X : Type 0} → (LayerProfile M K → List X) → List (Layer M K) → List Name
    → List X
in_order f layers names = flat_map (λ name. flat_map (in_layer f name) layers) names

-- the overrides of profiles, in order
abbrev pub overrides_of : {M K : Type 0} → List (Layer M K) → List Name
    → List (Compiled M K (OverrideUse M))
overrides_of layers names = in_order (λ p. p.overrides) layers names

-- the script rules of profiles, in order
abbrev pub script_rules_of : {M K : Type 0} → List (Layer M K) → List Name
    → List (Compiled M K ScriptRuleUse)
script_rules_of layers names = in_order (λ p. p.script_rules) layers names

-- what the profiles of names write, in their order
abbrev pub fields_of : List (Name × MergedProfile) → List Name → List WrittenFields
fields_of profiles names =
    filter_map (λ name. option_map (λ p. p.fields) (at_name name profiles)) names

-- the first value that f gives
abbrev pub first_of : {X Y : Type 0} → (X → Option Y) → List X → Option Y
first_of f xs = first (filter_map f xs)

-- where a default filter is: at a profile, or at the override of an index
pub data FilterSection : Type 0 where
  at_profile : FilterSection
  at_override : (index : ℕ) → FilterSection

-- one value at a profile, and one at an override
abbrev pub match_section : {X : Type 0} → FilterSection → X → X → X
match_section at_profile at_profiles at_overrides = at_profiles
match_section (at_override index) at_profiles at_overrides = at_overrides

-- a default filter: what it means, its text, and where it is
pub record FilterChoice (M : Type 0) : Type 0 where
  pub filter : M
  pub text : List ℕ
  pub profile : Name
  pub section : FilterSection

-- a default filter that is written in a section of a profile
abbrev pub chosen_at : {M : Type 0} → Name → FilterSection → WrittenFilter M → FilterChoice M
chosen_at profile section written = record {
  filter = written.means;
  text = written.text;
  profile = profile;
  section = section;
}

-- the place of a default filter, as it is shown
abbrev pub display_of : {M : Type 0} → FilterChoice M → List ℕ
display_of choice = match_section choice.section
    (codes "profile." ++ choice.profile ++ codes ".default-filter")
    (codes "default-filter in profile." ++ choice.profile ++ codes ".overrides")

-- the default filter of a profile: that of the highest source which writes one
abbrev pub filter_of_profile : {M K : Type 0} → List (Layer M K) → Name → Option (FilterChoice M)
filter_of_profile layers name =
    option_map (chosen_at name at_profile)
    (first_of (λ layer. option_and_then (λ p. p.default_filter) (at_name name layer.profiles))
    layers)

-- the default filter of the nearest profile of names which has one
abbrev pub nearest_filter : {M K : Type 0} → List (Layer M K) → List Name → Option (FilterChoice M)
nearest_filter layers names = first_of (filter_of_profile layers) names

-- the filter that matches everything, as the default filter `all()` of `default`
abbrev pub match_all_filter : {M : Type 0} → M → FilterChoice M
match_all_filter match_all =
    chosen_at default_name at_profile (record { means = match_all; text = codes "all()" })
